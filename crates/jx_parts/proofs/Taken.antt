-- Runs of neighbours are not refused.
use Rattle.std.proofs.Common.{◌≡◌, ◌≢◌, ◌⊎◌, ℕ, ◌+◌, ◌<◌, ◌≤◌, List, [], ◌∷◌, ◌++◌, length, take, drop, Option, None, Some, Result, Ok, Err, refl, sym, ap, ◌∙◌, subst, ⊎_elim, arith, append_assoc, append-nil, length-append}
use Rattle.std.specs.Prelude.{unwrap_or}
use Rattle.std.proofs.lemmas.List.{length-map, take_at}
use lib.Seq.{drop-append_seam, take-append_seam}
use Rattle.std.specs.List.{concat, AllByRecursion}
use Rattle.sha2.specs.Sha256.{sha256}
use Rattle.sha2.proofs.Facts256.{length-sha256}
use Rattle.jx_portion.specs.declared.record.Head.{Head}
use Rattle.jx_portion.specs.Fields.{RunFields}
use Rattle.jx_portion.specs.Portion.{structure_in, IsRun, IsSpelt}
use Rattle.jx_portion.specs.Reading.{head_at, record_at}
use Rattle.jx_portion.specs.Spelling.{head, number, run}
use Rattle.jx_portion.proofs.RecordLaws.{length-head, record_again, head_again}
use Rattle.jx_parts.specs.declared.parts_fault.PartsFault.{PartsFault}
use Rattle.jx_parts.specs.declared.parts_fault.PartsFault.TheVariants.{Report, NoRuns, Run, Elsewhere}
use Rattle.jx_parts.specs.declared.parts_fault.RunRefusal.{RunRefusal}
use Rattle.jx_parts.specs.Records.{behind, no_run, one_more, AreRuns, HoldsRuns}
use Rattle.jx_parts.specs.Refusals.{alone, another_depth, by_end, by_head, by_record, first_without_from, misplaced, no_head, no_parts, no_size, unreadable, without_from, IsBehind, IsHead, IsJoinFault, IsNoHead, IsNoRecord, IsNoRun, IsOfBounds, IsRefused, IsReport, IsWholeFault}
use Rattle.jx_parts.specs.inside.Reading.{told_size, HasItsLength}
use Rattle.jx_parts.proofs.Heads.{spelt_told}
use Rattle.std.specs.Io.KnownBytes.{IsAtEnd}
use Rattle.jx_ends.specs.Ends.{ReadsToEnd}
use Rattle.jx_parts.proofs.Refused.{left_over}
use Rattle.jx_parts.proofs.RecordSteps.{behind-behind, behind-none, head_kept, one_cut}
use Rattle.jx_parts.proofs.Sizes.{spelt_small}

-- ---- a record by itself

-- what is spelt is read
spelt_read : (depth : ℕ) (fields : RunFields) (bytes : List ℕ) → IsSpelt depth fields bytes → record_at bytes ≡ Ok (depth, fields)
spelt_read depth fields bytes is =
    let few : length fields.structures ≤ 32 = omega (arith, is.run_is.run.few, length-map fields.structures (structure_in depth)) in
    ap record_at is.spelt ∙ record_again depth fields is.depth few is.fits is.size

ok_both : {A B : Type 0} (x y : A) (r : Result A B) → r ≡ Ok x → r ≡ Ok y → x ≡ y
ok_both x y r e f = cc

not_err : {A B : Type 0} (x : A) (y : B) (r : Result A B) → r ≡ Ok x → r ≡ Err y → ⊥
not_err x y r e f = absurd cc

-- bytes spell one run
one_run : (depth : ℕ) (first second : RunFields) (bytes : List ℕ) → IsSpelt depth first bytes → IsSpelt depth second bytes → first ≡ second
one_run depth first second bytes is other =
    ap (λ (x : ℕ × RunFields). x.1) (ok_both (depth, first) (depth, second) (record_at bytes) (spelt_read depth first bytes is) (spelt_read depth second bytes other))

-- the head of a record tells its depth and its size
head_spelt : (depth : ℕ) (fields : RunFields) (bytes rest : List ℕ) → IsSpelt depth fields bytes → head_at (take 24 (bytes ++ rest)) ≡ Ok (record { size = length bytes; depth = depth }, [])
head_spelt depth fields bytes rest is =
    let body = run fields in
    let size = 56 + length body in
    let front = head size depth ++ body in
    let told = spelt_told depth fields bytes is in
    let long : length bytes ≡ size =
    ap length is.spelt ∙ omega (arith, length-append front (sha256 front), length-sha256 front, length-append (head size depth) body, length-head size depth) in
    let first : take 24 (bytes ++ rest) ≡ head size depth =
    ap (λ (l : List ℕ). take 24 (l ++ rest)) (is.spelt ∙ append_assoc (head size depth) body (sha256 front))
    ∙ ap (take 24) (append_assoc (head size depth) (body ++ sha256 front) rest) ∙ take_at (head size depth) ((body ++ sha256 front) ++ rest) 24 (length-head size depth) in
    ap head_at (first ∙ sym (append-nil (head size depth))) ∙ head_again size depth [] is.size is.depth ∙ ap (λ (n : ℕ). Ok (record { size = n; depth = depth }, [])) (sym long)

headed : (depth size : ℕ) (head : List ℕ) (it : Head) (rest : List ℕ) → head_at head ≡ Ok (it, rest) → IsHead depth size head → (size ≡ it.size) × (depth ≡ it.depth)
headed depth size head it rest e is =
    let same = ok_both (record { size = size; depth = depth }, is.0) (it, rest) (head_at head) is.1 e in
    (ap (λ (p : Head × List ℕ). p.0.size) same, ap (λ (p : Head × List ℕ). p.0.depth) same)

-- a record at the front of bytes is one
no_head_there : (depth : ℕ) (fields : RunFields) (bytes rest : List ℕ) (why : RunRefusal) → IsSpelt depth fields bytes → IsNoHead depth (take 24 (bytes ++ rest)) why → ⊥
no_head_there depth fields bytes rest why is (no_head it e said) = not_err _ it _ (head_spelt depth fields bytes rest is) e
no_head_there depth fields bytes rest why is (another_depth size other told apart said) =
    apart (headed other size _ _ [] (head_spelt depth fields bytes rest is) told).1
no_head_there depth fields bytes rest why is (no_size size told out said) =
    let same = (headed depth size _ _ [] (head_spelt depth fields bytes rest is) told).0 in
    let least = (spelt_told depth fields bytes is).1 in
    let small = spelt_small depth fields bytes is in
    ⊎_elim (λ low. absurd (omega (arith, low, same, least))) (λ high. absurd (omega (arith, high, same, small))) out

no_run_there : (depth : ℕ) (fields : RunFields) (bytes : List ℕ) (why : RunRefusal) → IsSpelt depth fields bytes → IsNoRun bytes why → ⊥
no_run_there depth fields bytes why is (unreadable it e said) = not_err _ it _ (spelt_read depth fields bytes is) e
no_run_there depth fields bytes why is (no_parts other found e none said) =
    let same = ok_both (other, found) (depth, fields) (record_at bytes) e (spelt_read depth fields bytes is) in
    none (subst (λ (x : ℕ × RunFields). IsRun x.0 x.1) (sym same) is.run_is)

no_record_there : (depth : ℕ) (fields : RunFields) (bytes rest : List ℕ) (why : RunRefusal) → IsSpelt depth fields bytes → IsNoRecord depth (bytes ++ rest) why → ⊥
no_record_there depth fields bytes rest why is (by_head none) = no_head_there depth fields bytes rest why is none
no_record_there depth fields bytes rest why is (by_end size told short said) =
    let same = (headed depth size _ _ [] (head_spelt depth fields bytes rest is) told).0 in
    absurd (omega (arith, short, same, length-append bytes rest))
no_record_there depth fields bytes rest why is (by_record size told enough none) =
    let same = (headed depth size _ _ [] (head_spelt depth fields bytes rest is) told).0 in
    let cut : take size (bytes ++ rest) ≡ bytes = ap (λ n. take n (bytes ++ rest)) same ∙ take-append_seam bytes rest in
    no_run_there depth fields bytes why is (subst (λ (l : List ℕ). IsNoRun l why) cut none)

-- ---- records one behind another

-- the same runs, from the first on
abbrev AreFrom : ℕ → Option ℕ → List (List ℕ) → ℕ → Type 0
AreFrom depth from [] count = count ≡ 0
AreFrom depth from (bytes ∷ records) count =
    (fields : RunFields) × (rest : ℕ) × IsSpelt depth fields bytes × (fields.from ≡ from) × (count ≡ fields.end + rest) × AreFrom depth (behind from fields.end) records rest

from_and : (depth : ℕ) (from : Option ℕ) (records : List (List ℕ)) (count : ℕ) (bytes : List ℕ) (fields : RunFields) → AreFrom depth from records count → IsSpelt depth fields bytes
    → fields.from ≡ behind from count → AreFrom depth from (records ++ bytes ∷ []) (count + fields.end)
from_and depth from [] count bytes fields are is place = (fields, 0, is, place ∙ ap (behind from) are ∙ behind-none from, omega (arith, are), refl)
from_and depth from (first ∷ records) count bytes fields are is place =
    let there : fields.from ≡ behind (behind from are.0.end) are.1 = place ∙ ap (behind from) are.4 ∙ sym (behind-behind from are.0.end are.1) in
    (are.0, are.1 + fields.end, are.2, are.3, omega (arith, are.4), from_and depth (behind from are.0.end) records are.1 bytes fields are.5 is there)

forward : (depth : ℕ) (from : Option ℕ) (records : List (List ℕ)) (count : ℕ) → AreRuns depth from records count → AreFrom depth from records count
forward depth from _ _ no_run = refl
forward depth from _ _ (one_more are bytes fields is place) = from_and depth from _ _ bytes fields (forward depth from _ _ are) is place

have_lengths : (depth : ℕ) (from : Option ℕ) (records : List (List ℕ)) (count : ℕ) → AreFrom depth from records count → AllByRecursion HasItsLength records
have_lengths depth from [] count are = tt
have_lengths depth from (bytes ∷ records) count are = (spelt_told depth are.0 bytes are.2, have_lengths depth (behind from are.0.end) records are.1 are.5)

first_from : (depth : ℕ) (from other : Option ℕ) (xs ys : List (List ℕ)) (count less : ℕ) → 0 < length xs → AreFrom depth from (xs ++ ys) count → AreFrom depth other xs less → from ≡ other
first_from depth from other [] ys count less some are front = absurd (omega (arith, some))
first_from depth from other (x ∷ xs) ys count less some are front =
    sym are.3 ∙ ap (λ (r : RunFields). r.from) (one_run depth are.0 front.0 x are.2 front.2) ∙ front.3

same_from : (depth : ℕ) (from other : Option ℕ) (xs : List (List ℕ)) (count more : ℕ) → 0 < length xs → AreFrom depth from xs count → AreFrom depth other xs more → from ≡ other
same_from depth from other [] count more some are also = absurd (omega (arith, some))
same_from depth from other (x ∷ xs) count more some are also =
    sym are.3 ∙ ap (λ (r : RunFields). r.from) (one_run depth are.0 also.0 x are.2 also.2) ∙ also.3

same_count : (depth : ℕ) (from other : Option ℕ) (xs : List (List ℕ)) (count more : ℕ) → AreFrom depth from xs count → AreFrom depth other xs more → count ≡ more
same_count depth from other [] count more are also = are ∙ sym also
same_count depth from other (x ∷ xs) count more are also =
    let long = ap (λ (r : RunFields). r.end) (one_run depth are.0 also.0 x are.2 also.2) in
    let rest = same_count depth (behind from are.0.end) (behind other also.0.end) xs are.1 also.1 are.5 also.5 in
    omega (arith, are.4, also.4, long, rest)

-- the runs behind some of them
runs_behind : (depth : ℕ) (from other : Option ℕ) (xs ys : List (List ℕ)) (count less : ℕ) → AreFrom depth from (xs ++ ys) count → AreFrom depth other xs less
    → (more : ℕ) × AreFrom depth (behind from less) ys more
runs_behind depth from other [] ys count less are front =
    (count, subst (λ (f : Option ℕ). AreFrom depth f ys count) (sym (ap (behind from) front ∙ behind-none from)) are)
runs_behind depth from other (x ∷ xs) ys count less are front =
    let long = ap (λ (r : RunFields). r.end) (one_run depth are.0 front.0 x are.2 front.2) in
    let more = runs_behind depth (behind from are.0.end) (behind other front.0.end) xs ys are.1 front.1 are.5 front.5 in
    let place : behind (behind from are.0.end) front.1 ≡ behind from less = behind-behind from are.0.end front.1 ∙ ap (behind from) (omega (arith, long, front.4)) in
    (more.0, subst (λ (f : Option ℕ). AreFrom depth f ys more.0) place more.1)

-- ---- where bytes are cut

first_cut : (x y v w : List ℕ) → HasItsLength x → HasItsLength y → x ++ v ≡ y ++ w → (x ≡ y) × (v ≡ w)
first_cut x y v w p q e =
    let long : length x ≡ length y = sym p.0 ∙ sym (head_kept x v p.1) ∙ ap told_size e ∙ head_kept y w q.1 ∙ q.0 in
    let first : x ≡ y = sym (take-append_seam x v) ∙ ap (take (length x)) e ∙ ap (λ n. take n (y ++ w)) long ∙ take-append_seam y w in
    let rest : v ≡ w = sym (drop-append_seam x v) ∙ ap (drop (length x)) e ∙ ap (λ n. drop n (y ++ w)) long ∙ drop-append_seam y w in
    (first, rest)

cut_behind : (xs zs : List (List ℕ)) (rest : List ℕ) → AllByRecursion HasItsLength xs → AllByRecursion HasItsLength zs → concat xs ++ rest ≡ concat zs
    → (ys : List (List ℕ)) × (zs ≡ xs ++ ys) × (rest ≡ concat ys)
cut_behind [] zs rest p q e = (zs, refl, e)
cut_behind (x ∷ xs) [] rest p q e =
    absurd (omega (arith, ap length e, length-append (x ++ concat xs) rest, length-append x (concat xs), p.0.1))
cut_behind (x ∷ xs) (z ∷ zs) rest p q e =
    let cut = first_cut x z (concat xs ++ rest) (concat zs) p.0 q.0 (sym (append_assoc x (concat xs) rest) ∙ e) in
    let more = cut_behind xs zs rest p.1 q.1 cut.1 in
    (more.0, ap (λ (l : List ℕ). l ∷ zs) (sym cut.0) ∙ ap (λ (l : List (List ℕ)). x ∷ l) more.1, more.2)

-- what stands behind the first runs of a stream of runs
record IsLeft (depth : ℕ) (from other : Option ℕ) (count number : ℕ) (rest : List ℕ) : Type 0 where
  records : List (List ℕ)
  whole : rest ≡ concat records
  more : ℕ
  are : AreFrom depth (behind from count) records more
  same : 0 < number → from ≡ other

left_of : (depth : ℕ) (from other : Option ℕ) (all count number : ℕ) (stream rest : List ℕ) → HoldsRuns depth from all stream → IsBehind depth other count number stream rest
    → IsLeft depth from other count number rest
left_of depth from other all count number stream rest holds front =
    let are = forward depth from holds.records all holds.runs in
    let so_far = forward depth other front.records count front.runs in
    let cut = cut_behind front.records holds.records rest (have_lengths depth other front.records count so_far) (have_lengths depth from holds.records all are) (sym front.whole ∙ holds.whole) in
    let here : AreFrom depth from (front.records ++ cut.0) all = subst (λ (l : List (List ℕ)). AreFrom depth from l all) cut.1 are in
    let left = runs_behind depth from other front.records cut.0 all count here so_far in
    record {
      records = cut.0;
      whole = cut.2;
      more = left.0;
      are = left.1;
      same = λ some. first_from depth from other front.records cut.0 all count (subst (λ n. 0 < n) front.counted some) here so_far;
    }

none_alone : (depth : ℕ) (from : Option ℕ) (records : List (List ℕ)) (more : ℕ) (rest : List ℕ) (why : RunRefusal) → AreFrom depth from records more → rest ≡ concat records → rest ≢ []
    → IsNoRecord depth rest why → ⊥
none_alone depth from [] more rest why are whole some none = some whole
none_alone depth from (first ∷ records) more rest why are whole some none =
    no_record_there depth are.0 first (concat records) why are.2 (subst (λ (l : List ℕ). IsNoRecord depth l why) whole none)

-- the next run begins where those before it end
next_from : (depth : ℕ) (from : Option ℕ) (records : List (List ℕ)) (more : ℕ) (bytes rest : List ℕ) (fields : RunFields) → AreFrom depth from records more → bytes ++ rest ≡ concat records
    → IsSpelt depth fields bytes → fields.from ≡ from
next_from depth from [] more bytes rest fields are whole is = absurd (omega (arith, ap length whole, length-append bytes rest, (spelt_told depth fields bytes is).1))
next_from depth from (first ∷ records) more bytes rest fields are whole is =
    let cut = first_cut bytes first rest (concat records) (spelt_told depth fields bytes is) (spelt_told depth are.0 first are.2) whole in
    let same = one_run depth fields are.0 first (subst (IsSpelt depth fields) cut.0 is) are.2 in
    ap (λ (r : RunFields). r.from) same ∙ are.3

some_is : (a b : ℕ) → Some a ≡ Some b → a ≡ b
some_is a b e = cc

none_is : (a : ℕ) → None ≡ Some a → ⊥
none_is a e = absurd cc

-- no run of neighbours is refused
not_refused : (depth : ℕ) (from : Option ℕ) (all : ℕ) (stream : List ℕ) (number : ℕ) (why : RunRefusal) → HoldsRuns depth from all stream → IsRefused depth stream number why → ⊥
not_refused depth from all stream number why holds (alone other count rest front some none) =
    let left = left_of depth from other all count number stream rest holds front in
    none_alone depth (behind from count) left.records left.more rest why left.are left.whole some none
not_refused depth from all stream number why holds (misplaced start count at bytes rest fields front some is place apart said) =
    let left = left_of depth from (Some start) all count number stream (bytes ++ rest) holds front in
    let next = next_from depth (behind from count) left.records left.more bytes rest fields left.are left.whole is in
    apart (some_is at (start + count) (sym place ∙ next ∙ ap (λ (f : Option ℕ). behind f count) (left.same some)))
not_refused depth from all stream number why holds (without_from start count bytes rest fields front some is place said) =
    let left = left_of depth from (Some start) all count number stream (bytes ++ rest) holds front in
    let next = next_from depth (behind from count) left.records left.more bytes rest fields left.are left.whole is in
    none_is (start + count) (sym place ∙ next ∙ ap (λ (f : Option ℕ). behind f count) (left.same some))
not_refused depth from all stream number why holds (first_without_from count at before bytes rest fields front some is place zero said) =
    let left = left_of depth from None all count before stream (bytes ++ rest) holds front in
    let next = next_from depth (behind from count) left.records left.more bytes rest fields left.are left.whole is in
    none_is at (sym (sym place ∙ next ∙ ap (λ (f : Option ℕ). behind f count) (left.same some)))

not_empty : (depth : ℕ) (from : Option ℕ) (records : List (List ℕ)) (count : ℕ) → AreFrom depth from records count → 0 < length records → concat records ≢ []
not_empty depth from [] count are some = λ e. absurd (omega (arith, some))
not_empty depth from (first ∷ records) count are some = λ e. absurd (omega (arith, ap length e, length-append first (concat records), (spelt_told depth are.0 first are.2).1))

some_there : (depth : ℕ) (from : Option ℕ) (all : ℕ) (stream : List ℕ) → HoldsRuns depth from all stream → stream ≢ []
some_there depth from all stream holds = λ e. not_empty depth from holds.records all (forward depth from holds.records all holds.runs) holds.some (sym holds.whole ∙ e)

pub runs_join : (depth : ℕ) (from : Option ℕ) (all : ℕ) (stream : List ℕ) (it : PartsFault) → HoldsRuns depth from all stream → IsJoinFault depth stream it → IsReport it
runs_join depth from all stream (Report it) holds is = tt
runs_join depth from all stream NoRuns holds is = some_there depth from all stream holds is
runs_join depth from all stream (Run number why) holds is = not_refused depth from all stream number why holds is
runs_join depth from all stream (Elsewhere a b c d) holds is = is

-- a stream has one run of its parts
pub same_place : (depth : ℕ) (from other : Option ℕ) (all more : ℕ) (stream : List ℕ) → HoldsRuns depth from all stream → HoldsRuns depth other more stream → (from ≡ other) × (all ≡ more)
same_place depth from other all more stream holds also =
    let are = forward depth from holds.records all holds.runs in
    let there = forward depth other also.records more also.runs in
    let same : also.records ≡ holds.records =
    one_cut also.records holds.records (have_lengths depth other also.records more there) (have_lengths depth from holds.records all are) (sym also.whole ∙ holds.whole) in
    let here : AreFrom depth other holds.records more = subst (λ (l : List (List ℕ)). AreFrom depth other l more) same there in
    (same_from depth from other holds.records all more holds.some are here, same_count depth from other holds.records all more are here)

pub runs_cover : (depth from to : ℕ) (start : Option ℕ) (all : ℕ) (stream : List ℕ) (it : PartsFault) → HoldsRuns depth start all stream → IsWholeFault depth from to stream it
    → IsOfBounds start all from to it
runs_cover depth from to start all stream (Report it) holds is = tt
runs_cover depth from to start all stream NoRuns holds is = some_there depth start all stream holds is
runs_cover depth from to start all stream (Run number why) holds is = not_refused depth start all stream number why holds is
runs_cover depth from to start all stream (Elsewhere a b c d) holds is =
    let other = is.2 in
    let same = same_place depth start other.at all other.count stream holds other.holds in
    (is.0, is.1, other.begins ∙ ap (λ (f : Option ℕ). unwrap_or f 0) (sym same.0), other.ends ∙ ap (λ n. a + n) (sym same.1), other.apart)

-- what is refused where runs are joined is refused where they are judged
pub whole_fault : (depth from to : ℕ) (stream : List ℕ) (it : PartsFault) → IsJoinFault depth stream it → IsWholeFault depth from to stream it
whole_fault depth from to stream (Report it) is = tt
whole_fault depth from to stream NoRuns is = is
whole_fault depth from to stream (Run n why) is = is
whole_fault depth from to stream (Elsewhere a b c d) is = absurd is

-- all that a reader had of known bytes
pub whole_stream : (known left : Option (List ℕ)) (stream bytes : List ℕ) → known ≡ Some stream → ReadsToEnd known left bytes → stream ≡ bytes
whole_stream known left stream bytes e read =
    let over = left_over known stream bytes left e read.0 in
    let none : over.0 ≡ [] = subst IsAtEnd over.1 read.1 in
    over.2 ∙ ap (λ l. bytes ++ l) none ∙ append-nil bytes
