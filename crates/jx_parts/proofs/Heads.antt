-- The size that the head of a record tells.
use Rattle.std.proofs.Common.{◌≡◌, ℕ, ◌+◌, ◌/◌, ◌^◌, ◌<◌, ◌≤◌, Bool, true, false, cond, ltb, eqb, List, ◌++◌, length, take, drop, Option, Result, Ok, Err, refl, sym, ap, ◌∙◌, append_assoc, arith}
use Rattle.std.proofs.lemmas.Bool.{ltb-false}
use Rattle.std.proofs.lemmas.List.{take_at, drop_at, length-append, length-drop}
use Rattle.std.proofs.lemmas.Nat.{from_be_bytes-to_be_bytes_8}
use Rattle.std.specs.Int.{from_be_bytes, w64}
use Rattle.sha2.specs.Sha256.{sha256}
use Rattle.sha2.proofs.Facts256.{length-sha256}
use Rattle.jx_portion.specs.declared.fault.Field.TheVariants as field
use Rattle.jx_portion.specs.declared.fault.RunFault.{RunFault}
use Rattle.jx_portion.specs.declared.fault.RunFault.TheVariants.{CutShort, Malformed, NotARun, OtherVersion}
use Rattle.jx_portion.specs.declared.record.Head.{Head}
use Rattle.jx_portion.specs.Fields.{RunFields}
use Rattle.jx_portion.specs.Portion.{IsRecord, IsSpelt}
use Rattle.jx_portion.specs.Reading.{◌>>=◌, depth_at, head_at, number_at, tag_at}
use Rattle.jx_portion.specs.Spelling.{head, number, run, tag}
use Rattle.jx_portion.proofs.Laws.{bind_ok, guard_ok, length-number, ok_is}
use Rattle.jx_parts.specs.inside.Reading.{told_depth, told_size, HasItsLength}

guard_err : {A : Type 0} (b : Bool) (d : RunFault) (r : Result A RunFault) (y : A) → cond b (Err d) r ≡ Ok y → (b ≡ false) × (r ≡ Ok y)
guard_err true d r y e = absurd cc
guard_err false d r y e = (refl, e)

guard_else : {A : Type 0} (b c : Bool) (d f : RunFault) (x y : A) → cond b (Ok x) (cond c (Err d) (Err f)) ≡ Ok y → x ≡ y
guard_else true c d f x y e = cc
guard_else false true d f x y e = absurd cc
guard_else false false d f x y e = absurd cc

number_is : (bytes : List ℕ) (x : ℕ × List ℕ) → number_at bytes ≡ Ok x → (8 ≤ length bytes) × ((from_be_bytes w64 (take 8 bytes), drop 8 bytes) ≡ x)
unfolding number_at
number_is bytes x e =
    let g = guard_ok (ltb (length bytes) 8) CutShort (from_be_bytes w64 (take 8 bytes), drop 8 bytes) x e in
    (ltb-false _ _ g.0, g.1)

tag_is : (bytes rest : List ℕ) → tag_at bytes ≡ Ok rest → (8 ≤ length bytes) × (drop 8 bytes ≡ rest)
unfolding tag_at
tag_is bytes rest e =
    let chosen : ℕ × List ℕ → Result (List ℕ) RunFault = λ first. cond (eqb first.0 tag) (Ok first.1) (cond (eqb (first.0 / 256) (tag / 256)) (Err OtherVersion) (Err NotARun)) in
    let g = guard_err (ltb (length bytes) 8) NotARun (number_at bytes >>= chosen) rest e in
    let a = bind_ok (number_at bytes) chosen rest g.1 in
    let n = number_is bytes a.0 a.1 in
    (n.0, ap (λ (p : ℕ × List ℕ). p.1) n.1 ∙ guard_else (eqb a.0.0 tag) (eqb (a.0.0 / 256) (tag / 256)) OtherVersion NotARun a.0.1 rest a.2)

-- what is read as a head tells the size and the depth that are read
pub head_told : (bytes : List ℕ) (x : Head × List ℕ) → head_at bytes ≡ Ok x → (x.0.size ≡ told_size bytes) × (24 ≤ length bytes) × (x.0.depth ≡ told_depth bytes)
unfolding head_at depth_at
head_told bytes x e =
    let a = bind_ok (tag_at bytes) (λ first. number_at first >>= λ size. depth_at size.1 >>= λ depth. Ok (record { size = size.0; depth = depth.0 }, depth.1)) x e in
    let b = bind_ok (number_at a.0) (λ size. depth_at size.1 >>= λ depth. Ok (record { size = size.0; depth = depth.0 }, depth.1)) x a.2 in
    let c = bind_ok (depth_at b.0.1) (λ depth. Ok (record { size = b.0.0; depth = depth.0 }, depth.1)) x b.2 in
    let d = bind_ok (number_at b.0.1) (λ depth. cond (ltb 65535 depth.0) (Err (Malformed field.Depth)) (Ok depth)) c.0 c.1 in
    let t = tag_is bytes a.0 a.1 in
    let n = number_is a.0 b.0 b.1 in
    let m = number_is b.0.1 d.0 d.1 in
    let size : b.0.0 ≡ x.0.size = ap (λ (p : Head × List ℕ). p.0.size) (ok_is (record { size = b.0.0; depth = c.0.0 }, c.0.1) x c.2) in
    let told : told_size bytes ≡ b.0.0 = ap (λ (l : List ℕ). from_be_bytes w64 (take 8 l)) t.1 ∙ ap (λ (p : ℕ × List ℕ). p.0) n.1 in
    let one : length a.0 + 8 ≡ length bytes = omega (arith, ap length t.1, length-drop 8 bytes, t.0) in
    let two : length b.0.1 + 8 ≡ length a.0 = omega (arith, ap (λ (p : ℕ × List ℕ). length p.1) n.1, length-drop 8 a.0, n.0) in
    let least : 8 ≤ length b.0.1 = m.0 in
    let g = guard_err (ltb 65535 d.0.0) (Malformed field.Depth) (Ok d.0) c.0 d.2 in
    let depth : c.0.0 ≡ x.0.depth = ap (λ (p : Head × List ℕ). p.0.depth) (ok_is (record { size = b.0.0; depth = c.0.0 }, c.0.1) x c.2) in
    let same : d.0.0 ≡ c.0.0 = ap (λ (p : ℕ × List ℕ). p.0) (ok_is d.0 c.0 g.1) in
    let rest : drop 8 (drop 8 bytes) ≡ b.0.1 = ap (drop 8) t.1 ∙ ap (λ (p : ℕ × List ℕ). p.1) n.1 in
    let deep : told_depth bytes ≡ d.0.0 = ap (λ (l : List ℕ). from_be_bytes w64 (take 8 l)) rest ∙ ap (λ (p : ℕ × List ℕ). p.0) m.1 in
    (sym size ∙ sym told, omega (arith, one, two, least), sym depth ∙ sym same ∙ sym deep)

told_again : (size depth : ℕ) (rest : List ℕ) → size < 2 ^ 64 → told_size (head size depth ++ rest) ≡ size
unfolding number
told_again size depth rest s =
    let regrouped : head size depth ++ rest ≡ number tag ++ (number size ++ (number depth ++ rest)) =
    append_assoc (number tag ++ number size) (number depth) rest ∙ append_assoc (number tag) (number size) (number depth ++ rest) in
    ap told_size regrouped ∙ ap (λ (l : List ℕ). from_be_bytes w64 (take 8 l)) (drop_at (number tag) (number size ++ (number depth ++ rest)) 8 (length-number tag))
    ∙ ap (from_be_bytes w64) (take_at (number size) (number depth ++ rest) 8 (length-number size)) ∙ from_be_bytes-to_be_bytes_8 size s

told_deep : (size depth : ℕ) (rest : List ℕ) → depth < 2 ^ 64 → told_depth (head size depth ++ rest) ≡ depth
unfolding number
told_deep size depth rest s =
    let regrouped : head size depth ++ rest ≡ number tag ++ (number size ++ (number depth ++ rest)) =
    append_assoc (number tag ++ number size) (number depth) rest ∙ append_assoc (number tag) (number size) (number depth ++ rest) in
    ap told_depth regrouped
    ∙ ap (λ (l : List ℕ). from_be_bytes w64 (take 8 (drop 8 l))) (drop_at (number tag) (number size ++ (number depth ++ rest)) 8 (length-number tag))
    ∙ ap (λ (l : List ℕ). from_be_bytes w64 (take 8 l)) (drop_at (number size) (number depth ++ rest) 8 (length-number size))
    ∙ ap (from_be_bytes w64) (take_at (number depth) rest 8 (length-number depth)) ∙ from_be_bytes-to_be_bytes_8 depth s

-- a record tells the depth of its run
pub depth_spelt : (depth : ℕ) (fields : RunFields) (bytes : List ℕ) → IsSpelt depth fields bytes → told_depth bytes ≡ depth
depth_spelt depth fields bytes is =
    let body = run fields in
    let size = 56 + length body in
    let front = head size depth ++ body in
    let low : depth < 2 ^ 64 = omega (arith, is.depth) in
    ap told_depth (is.spelt ∙ append_assoc (head size depth) body (sha256 front)) ∙ told_deep size depth (body ++ sha256 front) low

-- what is spelt has as many bytes as its head tells
pub spelt_told : (depth : ℕ) (fields : RunFields) (bytes : List ℕ) → IsSpelt depth fields bytes → HasItsLength bytes
spelt_told depth fields bytes is =
    let body = run fields in
    let size = 56 + length body in
    let front = head size depth ++ body in
    let fits : size < 2 ^ 64 = is.size in
    let whole : bytes ≡ head size depth ++ (body ++ sha256 front) = is.spelt ∙ append_assoc (head size depth) body (sha256 front) in
    let told : told_size bytes ≡ size = ap told_size whole ∙ told_again size depth (body ++ sha256 front) fits in
    let first : length (head size depth) ≡ 24 = omega (arith, length-append (number tag ++ number size) (number depth), length-append (number tag) (number size), length-number tag, length-number size, length-number depth) in
    let long : length bytes ≡ size = ap length whole ∙ omega (arith, length-append (head size depth) (body ++ sha256 front), length-append body (sha256 front), length-sha256 front, first) in
    (told ∙ sym long, omega (arith, long))

pub records_told : (part : List ℕ) (from : Option ℕ) (depth : ℕ) (bytes : List ℕ) → IsRecord part from depth bytes → HasItsLength bytes
records_told part from depth bytes are = spelt_told depth are.fields bytes are.spelt
