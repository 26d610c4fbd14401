-- A record as a whole: what is read is spelt so, and what is spelt so is read.
use Rattle.std.proofs.Common.{◌≡◌, ℕ, ◌+◌, ◌-◌, ◌/◌, ◌^◌, ◌<◌, ◌≤◌, Bool, true, false, cond, ltb, eqb, ◌||◌, List, ◌++◌, length, take, drop, Ok, Err, refl, sym, ap, subst, ◌∙◌, append_assoc, arith}
use Rattle.std.specs.Prelude.{bytes_eq}
use Rattle.std.proofs.lemmas.Bool.{eqb-true, ltb-false, le-ltb, or_parts}
use Rattle.std.proofs.lemmas.List.{take_at, drop_at, take-append-drop, length-append, length-take}
use Rattle.std.proofs.lemmas.Slice.Eq.{bytes_eq-Decides}
use Rattle.sha2.specs.Sha256.{sha256}
use Rattle.sha2.proofs.Facts256.{length-sha256}
use Rattle.jx_portion.specs.declared.fault.Field.TheVariants as field
use Rattle.jx_portion.specs.declared.fault.RunFault.{RunFault}
use Rattle.jx_portion.specs.declared.fault.RunFault.TheVariants.{CutShort, Damaged, Malformed, NotARun, OtherVersion}
use Rattle.jx_portion.specs.declared.record.Head.{Head}
use Rattle.jx_portion.specs.Fields.{RunFields}
use Rattle.jx_portion.specs.Reading.{◌>>=◌, body_at, depth_at, head_at, number_at, record_at, run_at, sealed_at, tag_at, IsSealed}
use Rattle.jx_portion.specs.Spelling.{head, number, run, sealed, spelling, tag, RunFits}
use Rattle.jx_portion.proofs.Laws.{IsBytes, IsBytes-take, bind_ok, guard_err, in_front, length-number, number_law, ok_is}
use Rattle.jx_portion.proofs.FieldLaws.{run_again, run_takes}

guard_else : {A : Type 0} (b c : Bool) (d f : RunFault) (x y : A) → cond b (Ok x) (cond c (Err d) (Err f)) ≡ Ok y → (b ≡ true) × (x ≡ y)
guard_else true c d f x y e = (refl, cc)
guard_else false true d f x y e = absurd cc
guard_else false false d f x y e = absurd cc

guard_last : {A : Type 0} (b : Bool) (d : RunFault) (x y : A) → cond b (Ok x) (Err d) ≡ Ok y → (b ≡ true) × (x ≡ y)
guard_last true d x y e = (refl, cc)
guard_last false d x y e = absurd cc

tag_takes : (bytes rest : List ℕ) → IsBytes bytes → tag_at bytes ≡ Ok rest → (bytes ≡ number tag ++ rest) × IsBytes rest
unfolding tag_at
tag_takes bytes rest bs e =
    let g = guard_err (ltb (length bytes) 8) NotARun (number_at bytes >>= λ first. cond (eqb first.0 tag) (Ok first.1) (cond (eqb (first.0 / 256) (tag / 256)) (Err OtherVersion) (Err NotARun))) rest e in
    let a = bind_ok (number_at bytes) (λ first. cond (eqb first.0 tag) (Ok first.1) (cond (eqb (first.0 / 256) (tag / 256)) (Err OtherVersion) (Err NotARun))) rest g.1 in
    let h = guard_else (eqb a.0.0 tag) (eqb (a.0.0 / 256) (tag / 256)) OtherVersion NotARun a.0.1 rest a.2 in
    let t = number_law.takes bytes a.0 bs a.1 in
    (t.0 ∙ ap (λ (n : ℕ). number n ++ a.0.1) (eqb-true _ _ h.0) ∙ ap (λ (l : List ℕ). number tag ++ l) h.1, subst IsBytes h.1 t.1)

tag_again : (rest : List ℕ) → tag_at (number tag ++ rest) ≡ Ok rest
unfolding tag_at
tag_again rest =
    let long : ltb (length (number tag ++ rest)) 8 ≡ false = le-ltb _ _ (omega (arith, length-append (number tag) rest, length-number tag)) in
    rw (long, number_law.again tag rest (omega arith)) refl

pub length-head : (size depth : ℕ) → length (head size depth) ≡ 24
length-head size depth = omega (arith, length-append (number tag ++ number size) (number depth), length-append (number tag) (number size), length-number tag, length-number size, length-number depth)

pub record HeadTaken (bytes : List ℕ) (x : Head × List ℕ) : Type 0 where
  pub parts : bytes ≡ head x.0.size x.0.depth ++ x.1
  pub rest_fits : IsBytes x.1
  pub size : x.0.size < 2 ^ 64
  pub depth : x.0.depth ≤ 65535

head_takes : (bytes : List ℕ) (x : Head × List ℕ) → IsBytes bytes → head_at bytes ≡ Ok x → HeadTaken bytes x
unfolding head_at depth_at
head_takes bytes x bs e =
    let a = bind_ok (tag_at bytes) (λ first. number_at first >>= λ size. depth_at size.1 >>= λ depth. Ok (record { size = size.0; depth = depth.0 }, depth.1)) x e in
    let b = bind_ok (number_at a.0) (λ size. depth_at size.1 >>= λ depth. Ok (record { size = size.0; depth = depth.0 }, depth.1)) x a.2 in
    let c = bind_ok (depth_at b.0.1) (λ depth. Ok (record { size = b.0.0; depth = depth.0 }, depth.1)) x b.2 in
    let d = bind_ok (number_at b.0.1) (λ depth. cond (ltb 65535 depth.0) (Err (Malformed field.Depth)) (Ok depth)) c.0 c.1 in
    let g = guard_err (ltb 65535 d.0.0) (Malformed field.Depth) (Ok d.0) c.0 d.2 in
    let same : d.0 ≡ c.0 = ok_is d.0 c.0 g.1 in
    let ta = tag_takes bytes a.0 bs a.1 in
    let tb = number_law.takes a.0 b.0 ta.1 b.1 in
    let td = number_law.takes b.0.1 d.0 tb.1 d.1 in
    let low : d.0.0 ≤ 65535 = ltb-false _ _ g.0 in
    let e1 = in_front bytes (number tag) a.0 (number b.0.0) b.0.1 ta.0 tb.0 in
    let e0 = in_front bytes (number tag ++ number b.0.0) b.0.1 (number d.0.0) d.0.1 e1 td.0 in
    let made : Head × List ℕ = (record { size = b.0.0; depth = d.0.0 }, d.0.1) in
    let is : made ≡ x = ap (λ (p : ℕ × List ℕ). (record { size = b.0.0; depth = p.0 }, p.1)) same ∙ ok_is (record { size = b.0.0; depth = c.0.0 }, c.0.1) x c.2 in
    subst (λ (y : Head × List ℕ). HeadTaken bytes y) is (record { parts = e0; rest_fits = td.1; size = tb.2; depth = low })

pub head_again : (size depth : ℕ) (rest : List ℕ) → size < 2 ^ 64 → depth ≤ 65535 → head_at (head size depth ++ rest) ≡ Ok (record { size = size; depth = depth }, rest)
unfolding head_at depth_at
head_again size depth rest s d =
    let low : ltb 65535 depth ≡ false = le-ltb _ _ d in
    rw (
      append_assoc (number tag ++ number size) (number depth) rest,
      append_assoc (number tag) (number size) (number depth ++ rest),
      tag_again (number size ++ (number depth ++ rest)),
      number_law.again size (number depth ++ rest) s,
      number_law.again depth rest (omega arith),
      low,
    ) refl

-- the bytes in front of the rest, and the rest up to the digest, are sealed
sealed_takes : (bytes front rest body : List ℕ) → bytes ≡ front ++ rest → sealed_at bytes rest ≡ Ok body → (bytes ≡ sealed (front ++ body)) × (body ≡ take (length rest - 32) rest)
unfolding sealed_at
sealed_takes bytes front rest body e h =
    let k = length bytes - 32 in
    let g = guard_err (ltb (length bytes) 32 || ltb (length rest) 32) (Malformed field.Size) (cond (bytes_eq (sha256 (take k bytes)) (drop k bytes)) (Ok (take (length rest - 32) rest)) (Err Damaged)) body h in
    let long = or_parts (ltb (length bytes) 32) (ltb (length rest) 32) g.0 in
    let enough : 32 ≤ length rest = ltb-false _ _ long.1 in
    let l = guard_last (bytes_eq (sha256 (take k bytes)) (drop k bytes)) Damaged (take (length rest - 32) rest) body g.1 in
    let digest : sha256 (take k bytes) ≡ drop k bytes = (bytes_eq-Decides (sha256 (take k bytes)) (drop k bytes)).0 l.0 in
    let tail = drop (length rest - 32) rest in
    let split : bytes ≡ (front ++ body) ++ tail = e ∙ ap (λ (t : List ℕ). front ++ t) (sym (take-append-drop (length rest - 32) rest) ∙ ap (λ (t : List ℕ). t ++ tail) l.1) ∙ sym (append_assoc front body tail) in
    let body-long : length body ≡ length rest - 32 = ap length (sym l.1) ∙ omega (arith, length-take (length rest - 32) rest) in
    let whole : length bytes ≡ length front + length rest = ap length e ∙ length-append front rest in
    let len : length (front ++ body) ≡ k = omega (arith, length-append front body) in
    let first : take k bytes ≡ front ++ body = ap (take k) split ∙ take_at (front ++ body) tail k len in
    (sym (take-append-drop k bytes) ∙ rw (← digest, first) refl, sym l.1)

sealed_again : (front body : List ℕ) → sealed_at (sealed (front ++ body)) (body ++ sha256 (front ++ body)) ≡ Ok body
unfolding sealed_at
sealed_again front body =
    let message = front ++ body in
    let s = sha256 message in
    let s-long : length s ≡ 32 = length-sha256 message in
    let all : length (message ++ s) ≡ length message + 32 = omega (arith, length-append message s) in
    let end : length (body ++ s) ≡ length body + 32 = omega (arith, length-append body s) in
    let a : ltb (length (message ++ s)) 32 ≡ false = le-ltb _ _ (omega arith) in
    let b : ltb (length (body ++ s)) 32 ≡ false = le-ltb _ _ (omega arith) in
    let k : length (message ++ s) - 32 ≡ length message = omega arith in
    let j : length (body ++ s) - 32 ≡ length body = omega arith in
    let same : bytes_eq s s ≡ true = (bytes_eq-Decides s s).1 refl in
    rw (a, b, k, j, take_at message s (length message) refl, drop_at message s (length message) refl, take_at body s (length body) refl, same) refl

pub record BodyTaken (bytes : List ℕ) (x : ℕ × List ℕ) : Type 0 where
  pub parts : bytes ≡ sealed (head (56 + length x.1) x.0 ++ x.1)
  pub body_fits : IsBytes x.1
  pub size : 56 + length x.1 < 2 ^ 64
  pub depth : x.0 ≤ 65535

body_takes : (bytes : List ℕ) (x : ℕ × List ℕ) → IsBytes bytes → body_at bytes ≡ Ok x → BodyTaken bytes x
unfolding body_at
body_takes bytes x bs e =
    let a = bind_ok (head_at bytes) (λ h. cond (ltb (length bytes) h.0.size) (Err CutShort) (cond (ltb h.0.size (length bytes)) (Err (Malformed field.Rest)) (sealed_at bytes h.1 >>= λ body. Ok (h.0.depth, body)))) x e in
    let g = guard_err (ltb (length bytes) a.0.0.size) CutShort (cond (ltb a.0.0.size (length bytes)) (Err (Malformed field.Rest)) (sealed_at bytes a.0.1 >>= λ body. Ok (a.0.0.depth, body))) x a.2 in
    let h = guard_err (ltb a.0.0.size (length bytes)) (Malformed field.Rest) (sealed_at bytes a.0.1 >>= λ body. Ok (a.0.0.depth, body)) x g.1 in
    let b = bind_ok (sealed_at bytes a.0.1) (λ body. Ok (a.0.0.depth, body)) x h.1 in
    let ta = head_takes bytes a.0 bs a.1 in
    let front = head a.0.0.size a.0.0.depth in
    let tb = sealed_takes bytes front a.0.1 b.0 ta.parts b.1 in
    let least : a.0.0.size ≤ length bytes = ltb-false _ _ g.0 in
    let most : length bytes ≤ a.0.0.size = ltb-false _ _ h.0 in
    let front-long : length front ≡ 24 = length-head a.0.0.size a.0.0.depth in
    let all : length bytes ≡ length (front ++ b.0) + length (sha256 (front ++ b.0)) = ap length tb.0 ∙ length-append (front ++ b.0) (sha256 (front ++ b.0)) in
    let size : a.0.0.size ≡ 56 + length b.0 = omega (arith, length-append front b.0, length-sha256 (front ++ b.0)) in
    let made : ℕ × List ℕ = (a.0.0.depth, b.0) in
    subst (λ (y : ℕ × List ℕ). BodyTaken bytes y) (ok_is made x b.2) (record {
      parts = tb.0 ∙ ap (λ (n : ℕ). sealed (head n a.0.0.depth ++ b.0)) size;
      body_fits = rw tb.1 (IsBytes-take (length a.0.1 - 32) a.0.1 ta.rest_fits);
      size = subst (λ (n : ℕ). n < 2 ^ 64) size ta.size;
      depth = ta.depth;
    })

body_again : (depth : ℕ) (body : List ℕ) → 56 + length body < 2 ^ 64 → depth ≤ 65535 → body_at (sealed (head (56 + length body) depth ++ body)) ≡ Ok (depth, body)
unfolding body_at
body_again depth body s d =
    let front = head (56 + length body) depth in
    let digest = sha256 (front ++ body) in
    let regrouped : sealed (front ++ body) ≡ front ++ (body ++ digest) = append_assoc front body digest in
    let front-long : length front ≡ 24 = length-head (56 + length body) depth in
    let long : length (sealed (front ++ body)) ≡ 56 + length body = omega (arith, length-append (front ++ body) digest, length-append front body, length-sha256 (front ++ body)) in
    let a : ltb (length (sealed (front ++ body))) (56 + length body) ≡ false = le-ltb _ _ (omega arith) in
    let b : ltb (56 + length body) (length (sealed (front ++ body))) ≡ false = le-ltb _ _ (omega arith) in
    let first : head_at (sealed (front ++ body)) ≡ Ok (record { size = 56 + length body; depth = depth }, body ++ digest) = ap head_at regrouped ∙ head_again (56 + length body) depth (body ++ digest) s d in
    rw (first, a, b, sealed_again front body) refl

pub record RecordTaken (bytes : List ℕ) (x : ℕ × RunFields) : Type 0 where
  pub parts : bytes ≡ spelling x.0 x.1
  pub fits : RunFits x.1
  pub size : 56 + length (run x.1) < 2 ^ 64
  pub depth : x.0 ≤ 65535

pub record_takes : (bytes : List ℕ) (x : ℕ × RunFields) → IsBytes bytes → record_at bytes ≡ Ok x → RecordTaken bytes x
unfolding record_at
record_takes bytes x bs e =
    let a = bind_ok (body_at bytes) (λ body. run_at body.1 >>= λ r. Ok (body.0, r)) x e in
    let b = bind_ok (run_at a.0.1) (λ r. Ok (a.0.0, r)) x a.2 in
    let ta = body_takes bytes a.0 bs a.1 in
    let tb = run_takes a.0.1 b.0 ta.body_fits b.1 in
    let made : ℕ × RunFields = (a.0.0, b.0) in
    subst (λ (y : ℕ × RunFields). RecordTaken bytes y) (ok_is made x b.2) (record {
      parts = ta.parts ∙ ap (λ (t : List ℕ). sealed (head (56 + length t) a.0.0 ++ t)) tb.0;
      fits = tb.1;
      size = subst (λ (t : List ℕ). 56 + length t < 2 ^ 64) tb.0 ta.size;
      depth = ta.depth;
    })

pub record_again : (depth : ℕ) (r : RunFields) → depth ≤ 65535 → length r.structures ≤ 32 → RunFits r → 56 + length (run r) < 2 ^ 64 → record_at (spelling depth r) ≡ Ok (depth, r)
unfolding record_at
record_again depth r d few fits s = rw (body_again depth (run r) s d, run_again r few fits) refl

-- what is read as a record has the head and the digest of one
pub read_sealed : (bytes : List ℕ) (x : ℕ × RunFields) → record_at bytes ≡ Ok x → IsSealed bytes
unfolding record_at
read_sealed bytes x e = let a = bind_ok (body_at bytes) (λ body. run_at body.1 >>= λ r. Ok (body.0, r)) x e in (a.0, a.1)
