-- One token of a pointer, and then the others.
use Rattle.std.proofs.Common.{◌≡◌, ◌≢◌, ℕ, zero, suc, ◌+◌, ◌<◌, ◌≤◌, List, [], ◌∷◌, length, take, drop, map, refl, sym, ap, subst, ◌∙◌, arith, get_or}
use Rattle.std.proofs.lemmas.List.{take-append-drop}
use Rattle.jx_index.specs.declared.units.Spelling.TheVariants.{InToken}
use Rattle.jx_index.specs.Pointers.{HasSlash, HasNoSlash, parted, tokens}
use Rattle.jx_index.specs.Units.{chars_units}
use Rattle.jx_index.proofs.TokenLaws.{parted-token}

no_slash_suc : (bytes : List ℕ) (at : ℕ) → at < length bytes → HasNoSlash (take at bytes) → get_or bytes at 0 ≢ 0x2f → HasNoSlash (take (suc at) bytes)
no_slash_suc [] at h n d = absurd (omega arith)
no_slash_suc (b ∷ bytes) zero h n d = (d, tt)
no_slash_suc (b ∷ bytes) (suc at) h n d = (n.0, no_slash_suc bytes at (omega arith) n.1 d)

pub no_slash_more : (bytes : List ℕ) (at : ℕ) → at < length bytes → HasNoSlash (take at bytes) → get_or bytes at 0 ≢ 0x2f → HasNoSlash (take (at + 1) bytes)
no_slash_more bytes at h n d = let e : suc at ≡ at + 1 = omega arith in subst (λ k. HasNoSlash (take k bytes)) e (no_slash_suc bytes at h n d)

parted_slash : (bytes : List ℕ) → HasSlash bytes → parted bytes ≡ [] ∷ drop 1 (parted bytes)
unfolding parted
parted_slash [] h = refl
parted_slash (b ∷ bytes) h = ap (λ x. parted (x ∷ bytes)) (h (omega arith)) ∙ sym (ap (λ x. [] ∷ drop 1 (parted (x ∷ bytes))) (h (omega arith)))

-- what follows the first slash: a token up to the next one, and the rest
pub tokens_next : (rest bytes : List ℕ) (n : ℕ) → 0 < length rest → HasSlash rest → bytes ≡ drop 1 rest → HasNoSlash (take n bytes) → HasSlash (drop n bytes)
    → tokens rest ≡ chars_units InToken 0 (take n bytes) ∷ tokens (drop n bytes)
unfolding parted
tokens_next [] bytes n l h e t s = absurd (omega arith)
tokens_next (b ∷ rest) bytes n l h e t s =
    ap (λ x. tokens (x ∷ rest)) (h l)
    ∙ ap (λ x. map (chars_units InToken 0) (parted x)) (sym e ∙ sym (take-append-drop n bytes))
    ∙ ap (map (chars_units InToken 0)) (parted-token (take n bytes) (drop n bytes) t (parted_slash (drop n bytes) s))

pub tokens_end : (rest : List ℕ) → length rest ≤ 0 → tokens rest ≡ []
unfolding parted
tokens_end [] h = refl
tokens_end (b ∷ rest) h = absurd (omega arith)
