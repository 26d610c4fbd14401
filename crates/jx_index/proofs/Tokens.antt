-- What the lexical machine gives over one token, and over what stands between tokens.
use Rattle.std.proofs.Common.{◌≡◌, ℕ, suc, ◌+◌, List, [], ◌∷◌, ◌++◌, length, drop, true, cond, refl, sym, ap, ◌∙◌, arith}
use Rattle.jx_lex.specs.declared.kind.Kind.{Kind}
use Rattle.jx_lex.specs.declared.alphabet.mark.Mark.{Mark}
use Rattle.jx_lex.specs.declared.alphabet.state.LexState.{LexState}
use Rattle.jx_lex.specs.declared.alphabet.state.LexState.TheVariants as state
use Rattle.jx_lex.specs.declared.alphabet.mark.MarkKind.{MarkKind}
use Rattle.jx_lex.specs.declared.alphabet.state.Step.{Step}
use Rattle.jx_lex.specs.Classes.{class_at}
use Rattle.jx_lex.specs.Lex.{lex, after_step, on_next}
use Rattle.jx_lex.specs.Moves.{move, as_gap, go, close, begin}
use Rattle.jx_lex.specs.Token.{IsBlank, space, tab, line_feed, carriage_return, IsToken}
use Rattle.jx_lex.specs.TokenStates.{Spells, here, goes, shuts, in_token, IsFinal, final_gap, final_zero, final_int, final_frac, final_exp, mark_of, IsRead}
use Rattle.jx_run.specs.Grammar.{Blanks, no_blanks, blank, Scalar}
use Rattle.jx_index.specs.inside.Building.{next_end}

-- what the law of tokens says
pub record TokensAreRead : Type 0 where
  pub reads : (kind : Kind) (bytes : List ℕ) → IsToken kind bytes → IsRead (mark_of kind) bytes
  pub stays : (s next : LexState) (byte : ℕ) → in_token s ≡ true → move s byte ≡ go next → in_token next ≡ true

-- with the end of a token that its last byte shows
abbrev pub ended : LexState → ℕ → List ℕ → List ℕ
ended s at ends = cond (in_token s) ends (at ∷ ends)

-- the bytes of a token after its first give no mark, and at most one end
pub record Spelt (s last : LexState) (at j : ℕ) (w rest : List ℕ) : Type 0 where
  pub marks : (lex s at (w ++ rest)).marks ≡ (lex last j rest).marks
  pub ends : (lex s at (w ++ rest)).ends ≡ ended last j (lex last j rest).ends

spelt-goes : {s next last : LexState} {b : ℕ} {bs : List ℕ} (at j : ℕ) (rest : List ℕ) → move s b ≡ go next → Spelt next last (suc at) j bs rest → Spelt s last at j (b ∷ bs) rest
unfolding lex
spelt-goes {bs = bs} at j rest h p =
    record {
      marks = ap (λ (m : Step). (after_step m at (on_next m.next at (λ n. lex n (suc at) (bs ++ rest)))).marks) h ∙ p.marks;
      ends = ap (λ (m : Step). (after_step m at (on_next m.next at (λ n. lex n (suc at) (bs ++ rest)))).ends) h ∙ p.ends;
    }

spelt-shuts : {s : LexState} {b : ℕ} (at j : ℕ) (rest : List ℕ) → move s b ≡ close → suc at ≡ j → Spelt s state.Gap at j (b ∷ []) rest
unfolding lex
spelt-shuts at j rest h e =
    record {
      marks = ap (λ (m : Step). (after_step m at (on_next m.next at (λ n. lex n (suc at) rest))).marks) h ∙ ap (λ n. (lex state.Gap n rest).marks) e;
      ends = ap (λ (m : Step). (after_step m at (on_next m.next at (λ n. lex n (suc at) rest))).ends) h ∙ ap (λ n. n ∷ (lex state.Gap n rest).ends) e;
    }

spelt-here : {s : LexState} (at j : ℕ) (rest : List ℕ) → in_token s ≡ true → at ≡ j → Spelt s s at j [] rest
spelt-here {s = s} at j rest h e =
    record {
      marks = ap (λ n. (lex s n rest).marks) e;
      ends = ap (λ n. (lex s n rest).ends) e ∙ sym (ap (λ c. cond c (lex s j rest).ends (j ∷ (lex s j rest).ends)) h);
    }

pub spelt : TokensAreRead → {s last : LexState} {w : List ℕ} → Spells s w last → in_token s ≡ true → (at j : ℕ) → j ≡ at + length w → (rest : List ℕ) → Spelt s last at j w rest
spelt law here h at j e rest = spelt-here at j rest h (omega arith)
spelt law (goes {s = s} {next = next} {b = b} m i) h at j e rest = spelt-goes at j rest m (spelt law i (law.stays s next b h m) (suc at) j (omega arith) rest)
spelt law (shuts m) h at j e rest = spelt-shuts at j rest m (omega arith)

-- ---- what may follow a token

pub data Delimited : List ℕ → Type 0 where
  at_end : Delimited []
  at_blank : {b : ℕ} {t : List ℕ} → IsBlank b → Delimited (b ∷ t)
  at_close_array : {t : List ℕ} → Delimited (0x5d ∷ t)
  at_close_object : {t : List ℕ} → Delimited (0x7d ∷ t)
  at_colon : {t : List ℕ} → Delimited (0x3a ∷ t)
  at_comma : {t : List ℕ} → Delimited (0x2c ∷ t)

pub blanks_delimited : {i j : ℕ} {t rest : List ℕ} → Blanks i t j rest → Delimited rest → Delimited t
blanks_delimited no_blanks d = d
blanks_delimited (blank h bs) d = at_blank h

-- behind a token the machine reads on as between tokens, and the token's end is the next one
pub record Resumes (s : LexState) (at last : ℕ) (rest : List ℕ) : Type 0 where
  pub marks : (lex s at rest).marks ≡ (lex state.Gap at rest).marks
  pub end : next_end last (ended s at (lex s at rest).ends) ≡ at
  pub ends : drop 1 (ended s at (lex s at rest).ends) ≡ (lex state.Gap at rest).ends

pub resumes : {s : LexState} {rest : List ℕ} → IsFinal s → Delimited rest → (at last : ℕ) → at + length rest ≡ last → Resumes s at last rest
unfolding lex class_at as_gap
resumes final_gap d at last h = record { marks = refl; end = refl; ends = refl }
resumes final_zero at_end at last h = record { marks = refl; end = (omega arith); ends = refl }
resumes final_zero (at_blank space) at last h = record { marks = refl; end = refl; ends = refl }
resumes final_zero (at_blank tab) at last h = record { marks = refl; end = refl; ends = refl }
resumes final_zero (at_blank line_feed) at last h = record { marks = refl; end = refl; ends = refl }
resumes final_zero (at_blank carriage_return) at last h = record { marks = refl; end = refl; ends = refl }
resumes final_zero at_close_array at last h = record { marks = refl; end = refl; ends = refl }
resumes final_zero at_close_object at last h = record { marks = refl; end = refl; ends = refl }
resumes final_zero at_colon at last h = record { marks = refl; end = refl; ends = refl }
resumes final_zero at_comma at last h = record { marks = refl; end = refl; ends = refl }
resumes final_int at_end at last h = record { marks = refl; end = (omega arith); ends = refl }
resumes final_int (at_blank space) at last h = record { marks = refl; end = refl; ends = refl }
resumes final_int (at_blank tab) at last h = record { marks = refl; end = refl; ends = refl }
resumes final_int (at_blank line_feed) at last h = record { marks = refl; end = refl; ends = refl }
resumes final_int (at_blank carriage_return) at last h = record { marks = refl; end = refl; ends = refl }
resumes final_int at_close_array at last h = record { marks = refl; end = refl; ends = refl }
resumes final_int at_close_object at last h = record { marks = refl; end = refl; ends = refl }
resumes final_int at_colon at last h = record { marks = refl; end = refl; ends = refl }
resumes final_int at_comma at last h = record { marks = refl; end = refl; ends = refl }
resumes final_frac at_end at last h = record { marks = refl; end = (omega arith); ends = refl }
resumes final_frac (at_blank space) at last h = record { marks = refl; end = refl; ends = refl }
resumes final_frac (at_blank tab) at last h = record { marks = refl; end = refl; ends = refl }
resumes final_frac (at_blank line_feed) at last h = record { marks = refl; end = refl; ends = refl }
resumes final_frac (at_blank carriage_return) at last h = record { marks = refl; end = refl; ends = refl }
resumes final_frac at_close_array at last h = record { marks = refl; end = refl; ends = refl }
resumes final_frac at_close_object at last h = record { marks = refl; end = refl; ends = refl }
resumes final_frac at_colon at last h = record { marks = refl; end = refl; ends = refl }
resumes final_frac at_comma at last h = record { marks = refl; end = refl; ends = refl }
resumes final_exp at_end at last h = record { marks = refl; end = (omega arith); ends = refl }
resumes final_exp (at_blank space) at last h = record { marks = refl; end = refl; ends = refl }
resumes final_exp (at_blank tab) at last h = record { marks = refl; end = refl; ends = refl }
resumes final_exp (at_blank line_feed) at last h = record { marks = refl; end = refl; ends = refl }
resumes final_exp (at_blank carriage_return) at last h = record { marks = refl; end = refl; ends = refl }
resumes final_exp at_close_array at last h = record { marks = refl; end = refl; ends = refl }
resumes final_exp at_close_object at last h = record { marks = refl; end = refl; ends = refl }
resumes final_exp at_colon at last h = record { marks = refl; end = refl; ends = refl }
resumes final_exp at_comma at last h = record { marks = refl; end = refl; ends = refl }

-- ---- a whole token

pub record Tokened (k : MarkKind) (i j last : ℕ) (t rest : List ℕ) : Type 0 where
  pub marks : (lex state.Gap i t).marks ≡ record { kind = k; at = i } ∷ (lex state.Gap j rest).marks
  pub end : next_end last (lex state.Gap i t).ends ≡ j
  pub ends : drop 1 (lex state.Gap i t).ends ≡ (lex state.Gap j rest).ends

begins_token : (first : ℕ) {k : MarkKind} {entry : LexState} (i : ℕ) (t : List ℕ) → move state.Gap first ≡ begin k entry
    → ((lex state.Gap i (first ∷ t)).marks ≡ record { kind = k; at = i } ∷ (lex entry (suc i) t).marks) × ((lex state.Gap i (first ∷ t)).ends ≡ (lex entry (suc i) t).ends)
unfolding lex
begins_token first i t h = (
  ap (λ (m : Step). (after_step m i (on_next m.next i (λ n. lex n (suc i) t))).marks) h,
  ap (λ (m : Step). (after_step m i (on_next m.next i (λ n. lex n (suc i) t))).ends) h,
)

pub tokened : TokensAreRead → {k : Kind} {i j : ℕ} {t rest : List ℕ} → Scalar k i t j rest → Delimited rest → (last : ℕ) → j + length rest ≡ last → Tokened (mark_of k) i j last t rest
tokened law {k = k} {i = i} {j = j} {t = t} {rest = rest} scalar d last h =
    let r = law.reads k scalar.token scalar.is_token in
    let w : t ≡ r.first ∷ (r.bytes ++ rest) = scalar.whole ∙ ap (λ x. x ++ rest) r.whole in
    let b = begins_token r.first i (r.bytes ++ rest) r.begins in
    let p = spelt law r.inside r.entered (suc i) j (omega (arith, scalar.end, ap length r.whole)) rest in
    let q = resumes r.final d j last h in
    record {
      marks = ap (λ x. (lex state.Gap i x).marks) w ∙ b.0 ∙ ap (λ (x : List Mark). record { kind = mark_of k; at = i } ∷ x) (p.marks ∙ q.marks);
      end = ap (λ x. next_end last (lex state.Gap i x).ends) w ∙ ap (next_end last) (b.1 ∙ p.ends) ∙ q.end;
      ends = ap (λ x. drop 1 (lex state.Gap i x).ends) w ∙ ap (drop 1) (b.1 ∙ p.ends) ∙ q.ends;
    }
