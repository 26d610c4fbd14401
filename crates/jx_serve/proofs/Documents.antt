-- One document among those that are open, and what is told of it.
use Rattle.std.proofs.Common.{◌≡◌, ℕ, zero, suc, ◌-◌, ◌<◌, List, [], ◌∷◌, ◌++◌, Option, Some, length, length-append, set, refl, ap, sym, subst, ◌∙◌, inl, inr, arith}
use Rattle.std.specs.Prelude.{slice_get, IfSome, MatchOption, Vec}
use Rattle.std.specs.Global.{Global}
use Rattle.jx_edit.specs.declared.positions.encoding.Encoding.{Encoding}
use Rattle.jx_wire.specs.declared.call.Change.{Change}
use Rattle.jx_wire.specs.declared.call.Content.{Content}
use Rattle.jx_wire.specs.declared.call.Uri.{Uri}
use Rattle.jx_wire.specs.declared.call.Versioned.{Versioned}
use Rattle.jx_serve.specs.Served.{number_named, AreMadeAt, OpenValue, ServerValue}
use Rattle.jx_serve.specs.Steps.{sent, with_documents, without, IsChanged, IsChangedAt, IsOpened, IsToldOf}
use Rattle.jx_serve.specs.declared.reply.Reply.{Reply}
use Rattle.jx_serve.specs.declared.reply.Reply.TheVariants.{Logged}
use Rattle.jx_serve.specs.declared.reply.Trouble.TheVariants.{Memory, NotOpen}

pub get_set : {X : Type 0} (xs : List X) (k : ℕ) (y : X) → k < length xs → slice_get (set xs k y) k ≡ Some y
get_set [] k y h = absurd (omega arith)
get_set (x ∷ xs) zero y h = refl
get_set (x ∷ xs) (suc k) y h = get_set xs k y (omega arith)

get_last : {X : Type 0} (xs : List X) (y : X) → slice_get (xs ++ y ∷ []) (length xs) ≡ Some y
get_last [] y = refl
get_last (x ∷ xs) y = get_last xs y

-- ---- what is told of a document behind a message

pub is_changed : (document : Versioned) (changes : List Change) (before after : ServerValue) (reply : Reply) (number : ℕ) → number_named document.uri.name.items before.documents ≡ Some number
    → IsChangedAt number document.version changes before after reply → IsChanged document changes before after reply
is_changed document changes before after reply number found changed =
    subst (λ (o : Option ℕ). MatchOption o ((after ≡ before) × (reply ≡ Logged NotOpen)) (λ (n : ℕ). IsChangedAt n document.version changes before after reply)) (sym found) changed

-- a document that changes were made of is told of by its number
pub changed_at : (number : ℕ) (version : Option (Vec ℕ Global)) (changes : List Change) (before mid after : ServerValue) (reply : Reply)
    → AreMadeAt before.encoding number changes before.documents mid.documents → mid ≡ with_documents mid.documents before → number < length before.documents → after ≡ mid
    → IfSome (slice_get mid.documents number) (λ d. IsToldOf mid.encoding version d reply) → IsChangedAt number version changes before after reply
changed_at number version changes before mid after reply made alone low same told =
    let Told : OpenValue → Type 0 = λ d. IsToldOf mid.encoding version d reply in
    let there : slice_get mid.documents number ≡ Some made.now = ap (λ (l : List OpenValue). slice_get l number) made.others ∙ get_set before.documents number made.now low in
    let of : IsToldOf mid.encoding version made.now reply = subst (λ (o : Option OpenValue). IfSome o Told) there told in
    let whole : IsChangedAt number version changes before mid reply = record {
      made = made;
      alone = alone;
      tells = subst (λ (e : Encoding). IsToldOf e version made.now reply) (ap (λ (s : ServerValue). s.encoding) alone) of;
    } in
    subst (λ (s : ServerValue). IsChangedAt number version changes before s reply) (sym same) whole

pub changed_untold : (number : ℕ) (version : Option (Vec ℕ Global)) (changes : List Change) (before after : ServerValue) (reply : Reply)
    → AreMadeAt before.encoding number changes before.documents after.documents → after ≡ with_documents after.documents before → reply ≡ Logged Memory
    → IsChangedAt number version changes before after reply
changed_untold number version changes before after reply made alone e = record {
  made = made;
  alone = alone;
  tells = subst (λ (r : Reply). IsToldOf before.encoding version made.now r) (sym e) tt;
}

added : (uri : Uri) (content : Content) (text : Change) (before cut mid : ServerValue) → cut ≡ with_documents (without uri.name.items before.documents) before
    → mid ≡ with_documents (cut.documents ++ sent cut uri content text ∷ []) cut → mid ≡ with_documents (without uri.name.items before.documents ++ sent before uri content text ∷ []) before
added uri content text before cut mid e f = subst (λ (s : ServerValue). mid ≡ with_documents (s.documents ++ sent s uri content text ∷ []) s) e f

-- a document that was opened is the last one
pub opened : (document : Versioned) (content : Content) (text : Change) (before cut mid after : ServerValue) (last : ℕ) (reply : Reply)
    → cut ≡ with_documents (without document.uri.name.items before.documents) before → mid ≡ with_documents (cut.documents ++ sent cut document.uri content text ∷ []) cut
    → last ≡ length mid.documents - 1 → after ≡ mid → IfSome (slice_get mid.documents last) (λ d. IsToldOf mid.encoding document.version d reply)
    → IsOpened document content text before after reply
opened document content text before cut mid after last reply e f n same told =
    let rest = without document.uri.name.items before.documents in
    let new = sent before document.uri content text in
    let m : mid ≡ with_documents (rest ++ new ∷ []) before = added document.uri content text before cut mid e f in
    let documents : mid.documents ≡ rest ++ new ∷ [] = ap (λ (s : ServerValue). s.documents) m in
    let count : last ≡ length rest = n ∙ omega (arith, ap (λ (l : List OpenValue). length l) documents, length-append rest (new ∷ [])) in
    let there : slice_get mid.documents last ≡ Some new = ap (λ (l : List OpenValue). slice_get l last) documents ∙ ap (λ (i : ℕ). slice_get (rest ++ new ∷ []) i) count ∙ get_last rest new in
    let Told : OpenValue → Type 0 = λ d. IsToldOf mid.encoding document.version d reply in
    let of : IsToldOf mid.encoding document.version new reply = subst (λ (o : Option OpenValue). IfSome o Told) there told in
    inl (same ∙ m, subst (λ (x : Encoding). IsToldOf x document.version new reply) (ap (λ (s : ServerValue). s.encoding) m) of)

pub not_opened : (document : Versioned) (content : Content) (text : Change) (before cut after : ServerValue) (reply : Reply) → cut ≡ with_documents (without document.uri.name.items before.documents) before
    → after ≡ cut → reply ≡ Logged Memory → IsOpened document content text before after reply
not_opened document content text before cut after reply e same r = inr (same ∙ e, r)
