-- What looks on sees the marks and ends of bytes that are passed over, one stretch behind another.
use Rattle.std.proofs.Common.{◌≡◌, ℕ, ◌+◌, ◌<◌, ◌≤◌, List, [], ◌∷◌, ◌++◌, length, get_or, ap, sym, subst, ◌∙◌, arith, inl, inr}
use Rattle.std.specs.Prelude.{◌⊎◌, slice_range}
use Rattle.std.proofs.Common.{append-nil}
use Rattle.jx_lex.specs.declared.alphabet.state.LexState.TheVariants.{Gap}
use Rattle.jx_lex.specs.declared.alphabet.mark.Mark.{Mark}
use Rattle.jx_lex.specs.Lex.{Track, lex}
use Rattle.jx_lex.specs.Lex as reading
use Rattle.jx_lex.specs.Seen.{Seen, Grows}
use Rattle.jx_lex.specs.Whole.{Passes, PassesNumber}
use Rattle.jx_lex.proofs.Whole.{passes-comma, passes-close_array, passes-close_object, number-comma, number-close_array, number-close_object, number-space, number-line_feed, number-return}
use Rattle.jx_lex.specs.declared.alphabet.mark.MarkKind.{MarkKind}
use Rattle.jx_lex.specs.declared.alphabet.mark.MarkKind.TheVariants as mark
use Rattle.jx_lex.proofs.Keeping.{goes-none, sees-then, lex-then, exit-then, grows-then}
use Rattle.jx_reduce.specs.Read.{Reading}
use Rattle.jx_reduce.specs.declared.table.holder.Holder.{Holder}
use Rattle.jx_reduce.specs.declared.table.expect.Expect.{Expect}
use Rattle.jx_reduce.specs.inside.Passed.{Leaves, comma, array_end, object_end, Reads}
use Rattle.jx_reduce.specs.inside.Told.{Sees, leaves_by}

-- what grows by the marks and ends of a stretch has seen it
pub sees-of : (old new : Seen) (xs : List ℕ) (a b : ℕ) (ms : List Mark) (es : List ℕ) → Passes xs a b ms es → Grows old new ms es → Sees old new xs a b
sees-of old new xs a b ms es p h =
    subst (λ (us : List Mark). Grows old new us (lex Gap a (slice_range xs a b)).ends) (sym p.marks_are)
    (subst (λ (us : List ℕ). Grows old new ms us) (sym p.ends_are) h)

-- nothing was seen
pub stays : (seen : Seen) → Grows seen seen [] []
stays seen = λ marks ends h. subst (λ (es : List ℕ). seen (marks ++ []) es) (sym (append-nil ends)) (subst (λ (ms : List Mark). seen ms ends) (sym (append-nil marks)) h)

-- nothing was read
pub sees-none : (seen : Seen) (xs : List ℕ) (a : ℕ) → Sees seen seen xs a a
sees-none seen xs a = (goes-none xs a Gap seen).seen

-- one stretch behind another
pub sees-on : (old mid new : Seen) (xs : List ℕ) (a b c : ℕ) → a ≤ b → b ≤ c → b ≤ length xs → (lex Gap a (slice_range xs a b)).exit ≡ reading.state Gap
    → Sees old mid xs a b → Sees mid new xs b c → Sees old new xs a c
sees-on old mid new xs a b c low high fits exit f h = sees-then xs a b c Gap Gap old mid new low high fits (record { seen = f; exit = exit }) h

-- behind a stretch that was passed over
pub sees-passed : (old mid new : Seen) (xs : List ℕ) (a b c : ℕ) (ms : List Mark) (es : List ℕ) → Passes xs a b ms es → Grows old mid ms es → b ≤ c → Sees mid new xs b c → Sees old new xs a c
sees-passed old mid new xs a b c ms es p g high h = sees-on old mid new xs a b c p.low high p.fits p.exit (sees-of old mid xs a b ms es p g) h

-- behind one that was read
pub sees-read : (old mid new : Seen) (d : ℕ) (xs : List ℕ) (a b c : ℕ) (r s : Reading) → Reads d xs a b r s → b ≤ c → Sees old mid xs a b → Sees mid new xs b c → Sees old new xs a c
sees-read old mid new d xs a b c r s p high f h = sees-on old mid new xs a b c p.low high p.fits p.exit f h

-- ---- stretches with their marks and ends, one behind another

pub passes-then : (xs : List ℕ) (a b c : ℕ) (ms ns : List Mark) (es fs : List ℕ) → Passes xs a b ms es → Passes xs b c ns fs → Passes xs a c (ms ++ ns) (es ++ fs)
passes-then xs a b c ms ns es fs p q =
    let low = p.low in
    let high = q.low in
    let on = lex-then xs a b c Gap Gap p.low q.low p.fits p.exit in
    record {
      low = omega (arith, low, high);
      fits = q.fits;
      marks_are = ap (λ (t : Track). t.marks) on ∙ ap (λ (us : List Mark). us ++ (lex Gap b (slice_range xs b c)).marks) p.marks_are ∙ ap (λ (us : List Mark). ms ++ us) q.marks_are;
      ends_are = ap (λ (t : Track). t.ends) on ∙ ap (λ (us : List ℕ). us ++ (lex Gap b (slice_range xs b c)).ends) p.ends_are ∙ ap (λ (us : List ℕ). es ++ us) q.ends_are;
      exit = exit-then xs a b c Gap Gap p.low q.low p.fits p.exit ∙ q.exit;
    }

-- a comma or a closing bracket behind a value
pub passes-leave : (xs : List ℕ) (i byte : ℕ) (f : Expect) (s t : List Holder) → i < length xs → get_or xs i 0 ≡ byte → Leaves byte f s t
    → Passes xs i (i + 1) (record { kind = leaves_by byte; at = i } ∷ []) []
passes-leave xs i byte f s t low is (comma h k out) =
    subst (λ (kind : MarkKind). Passes xs i (i + 1) (record { kind = kind; at = i } ∷ []) []) (sym (ap leaves_by h)) (passes-comma xs i low (is ∙ h))
passes-leave xs i byte f s t low is (array_end h k out) =
    subst (λ (kind : MarkKind). Passes xs i (i + 1) (record { kind = kind; at = i } ∷ []) []) (sym (ap leaves_by h)) (passes-close_array xs i low (is ∙ h))
passes-leave xs i byte f s t low is (object_end h k out) =
    subst (λ (kind : MarkKind). Passes xs i (i + 1) (record { kind = kind; at = i } ∷ []) []) (sym (ap leaves_by h)) (passes-close_object xs i low (is ∙ h))

-- a number and what stands behind it
pub passes-number_leave : (xs : List ℕ) (a e byte : ℕ) (f : Expect) (s t : List Holder) → PassesNumber xs a e → e < length xs → get_or xs e 0 ≡ byte → Leaves byte f s t
    → Passes xs a (e + 1) (record { kind = mark.Number; at = a } ∷ record { kind = leaves_by byte; at = e } ∷ []) (e ∷ [])
passes-number_leave xs a e byte f s t n low is (comma h k out) =
    subst (λ (kind : MarkKind). Passes xs a (e + 1) (record { kind = mark.Number; at = a } ∷ record { kind = kind; at = e } ∷ []) (e ∷ [])) (sym (ap leaves_by h)) (number-comma xs a e n low (is ∙ h))
passes-number_leave xs a e byte f s t n low is (array_end h k out) =
    subst (λ (kind : MarkKind). Passes xs a (e + 1) (record { kind = mark.Number; at = a } ∷ record { kind = kind; at = e } ∷ []) (e ∷ [])) (sym (ap leaves_by h)) (number-close_array xs a e n low (is ∙ h))
passes-number_leave xs a e byte f s t n low is (object_end h k out) =
    subst (λ (kind : MarkKind). Passes xs a (e + 1) (record { kind = mark.Number; at = a } ∷ record { kind = kind; at = e } ∷ []) (e ∷ [])) (sym (ap leaves_by h)) (number-close_object xs a e n low (is ∙ h))

pub passes-number_blank : (xs : List ℕ) (a e : ℕ) → PassesNumber xs a e → e < length xs → (get_or xs e 0 ≡ 0x20) ⊎ (get_or xs e 0 ≡ 0x0a) ⊎ (get_or xs e 0 ≡ 0x0d)
    → Passes xs a (e + 1) (record { kind = mark.Number; at = a } ∷ []) (e ∷ [])
passes-number_blank xs a e n low (inl h) = number-space xs a e n low h
passes-number_blank xs a e n low (inr (inl h)) = number-line_feed xs a e n low h
passes-number_blank xs a e n low (inr (inr h)) = number-return xs a e n low h

-- ---- growth

abbrev pub mark_of : MarkKind → ℕ → Mark
mark_of kind at = record { kind = kind; at = at }

pub by_mark : (old new : Seen) (m n : Mark) (es : List ℕ) → m ≡ n → Grows old new (m ∷ []) es → Grows old new (n ∷ []) es
by_mark old new m n es e h = subst (λ (k : Mark). Grows old new (k ∷ []) es) e h

pub two : (old mid new : Seen) (ms more : List Mark) (es others : List ℕ) → Grows old mid ms es → Grows mid new more others → Grows old new (ms ++ more) (es ++ others)
two old mid new ms more es others f h = grows-then old mid new ms more es others f h
