-- Records that were read one behind another.
use Rattle.std.proofs.Common.{◌≡◌, ℕ, ◌+◌, ◌≤◌, List, [], ◌∷◌, ◌++◌, length, take, drop, Option, None, Some, refl, sym, ap, ◌∙◌, subst, arith, rules, append_assoc, append-nil, length-append, length-drop, zero-add}
use lib.Seq.{drop-append-le, drop-append_seam, take-append_seam}
use Rattle.std.proofs.lemmas.List.{take-append-le}
use Rattle.std.proofs.lemmas.List.Folds.{concat-append}
use Rattle.std.proofs.KnownBytes.{Consumes-trans}
use Rattle.std.specs.List.{concat, AllByRecursion}
use Rattle.std.specs.Io.KnownBytes.{Consumes}
use Rattle.std.specs.Int.{from_be_bytes, w64}
use Rattle.jx_portion.specs.Fields.{RunFields}
use Rattle.jx_portion.specs.Portion.{portion_in, Adjoin, IsPortion, IsRecord, IsSaidBy, IsSpelt, Meets, PortionValue}
use Rattle.jx_ends.specs.Ends.{ReadsToEnd}
use Rattle.jx_parts.specs.Records.{behind, no_run, one_more, AreRecords, AreRuns}
use Rattle.jx_parts.proofs.Heads.{depth_spelt}
use Rattle.jx_parts.specs.inside.Reading.{told_depth, told_size, HasItsLength, IsTaken, IsJoined, AreCounted, AreTaken, IsLast}

pub behind-none : (from : Option ℕ) → behind from 0 ≡ from
behind-none None = refl
behind-none (Some n) = ap Some (omega arith)

pub behind-behind : (from : Option ℕ) (a b : ℕ) → behind (behind from a) b ≡ behind from (a + b)
behind-behind None a b = refl
behind-behind (Some n) a b = ap Some (omega arith)

-- the last of some records, and its part
pub last_of : (depth : ℕ) (from : Option ℕ) (parts records : List (List ℕ)) (r : List ℕ) → AreRecords depth from parts (records ++ r ∷ []) → IsLast depth from parts records r
last_of depth from [] [] r are = absurd are
last_of depth from [] (x ∷ records) r are = absurd are
last_of depth from (part ∷ []) [] r are = record { front = []; part = part; whole = append-nil part; are = tt; is = subst (λ f. IsRecord part f depth r) (sym (behind-none from)) are.0 }
last_of depth from (part ∷ next ∷ parts) [] r are = absurd are.1
last_of depth from (part ∷ parts) (x ∷ records) r are =
    let more = last_of depth (behind from (length part)) parts records r are.1 in
    record {
      front = part ∷ more.front;
      part = more.part;
      whole = ap (λ l. part ++ l) more.whole ∙ sym (append_assoc part (concat more.front) more.part);
      are = (are.0, more.are);
      is = subst (λ f. IsRecord more.part f depth r) (behind-behind from (length part) (length (concat more.front)) ∙ ap (behind from) (sym (length-append part (concat more.front)))) more.is;
    }

pub depth_kept : (x z : List ℕ) → 24 ≤ length x → told_depth (x ++ z) ≡ told_depth x
depth_kept x z h =
    let more : 16 ≤ length (drop 8 x) = omega (arith, h, length-drop 8 x) in
    ap (λ l. from_be_bytes w64 (take 8 (drop 8 l))) (drop-append-le 8 x z (omega (arith, h)))
    ∙ ap (λ l. from_be_bytes w64 (take 8 l)) (drop-append-le 8 (drop 8 x) z (omega (arith, more)))
    ∙ ap (from_be_bytes w64) (take-append-le 8 (drop 8 (drop 8 x)) z (omega (arith, more, length-drop 8 (drop 8 x))))

pub head_kept : (x z : List ℕ) → 24 ≤ length x → told_size (x ++ z) ≡ told_size x
head_kept x z h =
    ap (λ l. from_be_bytes w64 (take 8 l)) (drop-append-le 8 x z (omega (arith, h))) ∙ ap (from_be_bytes w64) (take-append-le 8 (drop 8 x) z (search (rules, arith)))

-- what is as long as its head says is cut in one way
pub one_cut : (xs ys : List (List ℕ)) → AllByRecursion HasItsLength xs → AllByRecursion HasItsLength ys → concat xs ≡ concat ys → xs ≡ ys
one_cut [] [] p q e = refl
one_cut [] (y ∷ ys) p q e =
    let none : 0 ≡ length y + length (concat ys) = ap length e ∙ length-append y (concat ys) in
    absurd (omega (arith, none, q.0.1))
one_cut (x ∷ xs) [] p q e =
    let none : length x + length (concat xs) ≡ 0 = sym (length-append x (concat xs)) ∙ ap length e in
    absurd (omega (arith, none, p.0.1))
one_cut (x ∷ xs) (y ∷ ys) p q e =
    let long : length x ≡ length y = sym p.0.0 ∙ sym (head_kept x (concat xs) p.0.1) ∙ ap told_size e ∙ head_kept y (concat ys) q.0.1 ∙ q.0.0 in
    let first : x ≡ y = sym (take-append_seam x (concat xs)) ∙ ap (take (length x)) e ∙ ap (λ n. take n (y ++ concat ys)) long ∙ take-append_seam y (concat ys) in
    let rest : concat xs ≡ concat ys = sym (drop-append_seam x (concat xs)) ∙ ap (drop (length x)) e ∙ ap (λ n. drop n (y ++ concat ys)) long ∙ drop-append_seam y (concat ys) in
    let more : xs ≡ ys = one_cut xs ys p.1 q.1 rest in
    cc

all_long : (depth : ℕ) (from : Option ℕ) (parts records : List (List ℕ)) → ((part : List ℕ) (f : Option ℕ) (d : ℕ) (r : List ℕ) → IsRecord part f d r → HasItsLength r) → AreRecords depth from parts records → AllByRecursion HasItsLength records
all_long depth from [] [] law are = tt
all_long depth from [] (r ∷ records) law are = absurd are
all_long depth from (part ∷ parts) [] law are = absurd are
all_long depth from (part ∷ parts) (r ∷ records) law are = (law part from depth r are.0, all_long depth (behind from (length part)) parts records law are.1)

pub all_and : (xs : List (List ℕ)) (x : List ℕ) → AllByRecursion HasItsLength xs → HasItsLength x → AllByRecursion HasItsLength (xs ++ x ∷ [])
all_and [] x p h = (h, tt)
all_and (y ∷ ys) x p h = (p.0, all_and ys x p.1 h)

first_part : (from : Option ℕ) (depth : ℕ) (parts : List (List ℕ)) (r : List ℕ) (p : PortionValue) → AreRecords depth from parts (r ∷ [])
    → ((part : List ℕ) (from : Option ℕ) (depth : ℕ) → IsRecord part from depth r → IsPortion part from depth p) → IsPortion (concat parts) from depth p
first_part from depth [] r p are reads = absurd are
first_part from depth (part ∷ []) r p are reads = subst (λ l. IsPortion l from depth p) (sym (append-nil part)) (reads part from depth are.0)
first_part from depth (part ∷ next ∷ parts) r p are reads = absurd are.1

-- a run of the depth that its record tells
pub taken_run : (depth : ℕ) (bytes : List ℕ) (p : PortionValue) → told_depth bytes ≡ depth → IsSaidBy bytes p → (fields : RunFields) × (p ≡ portion_in depth fields) × IsSpelt depth fields bytes
taken_run depth bytes p deep said =
    subst (λ (d : ℕ). (fields : RunFields) × (p ≡ portion_in d fields) × IsSpelt d fields bytes) (sym (depth_spelt said.0 said.1 bytes said.3) ∙ deep) (said.1, said.2, said.3)

adjoined : (left right : PortionValue) (f g : Option ℕ) → Adjoin left right f g → g ≡ behind f left.run.end
adjoined left right None None a = refl
adjoined left right (Some f) (Some g) a = ap Some a
adjoined left right None (Some g) a = absurd a
adjoined left right (Some f) None a = absurd a

first_run : (depth : ℕ) (bytes : List ℕ) (p : PortionValue) → told_depth bytes ≡ depth → IsSaidBy bytes p → AreRuns depth p.from (bytes ∷ []) p.run.end
first_run depth bytes p deep said =
    let t = taken_run depth bytes p deep said in
    let from : t.0.from ≡ behind p.from 0 = sym (ap (λ (v : PortionValue). v.from) t.1) ∙ sym (behind-none p.from) in
    let end : 0 + t.0.end ≡ p.run.end = zero-add t.0.end ∙ sym (ap (λ (v : PortionValue). v.run.end) t.1) in
    subst (AreRuns depth p.from (bytes ∷ [])) end (one_more no_run bytes t.0 t.2 from)

next_run : (depth : ℕ) (p q w : PortionValue) (records : List (List ℕ)) (bytes : List ℕ) → AreRuns depth p.from records p.run.end → told_depth bytes ≡ depth → IsSaidBy bytes q → Meets p q
    → w.from ≡ p.from → w.run.end ≡ p.run.end + q.run.end → AreRuns depth w.from (records ++ bytes ∷ []) w.run.end
next_run depth p q w records bytes so_far deep said meets from end =
    let t = taken_run depth bytes q deep said in
    let place : t.0.from ≡ behind p.from p.run.end = sym (ap (λ (v : PortionValue). v.from) t.1) ∙ adjoined p q p.from q.from meets.places in
    let long : p.run.end + t.0.end ≡ w.run.end = ap (λ n. p.run.end + n) (sym (ap (λ (v : PortionValue). v.run.end) t.1)) ∙ sym end in
    subst (λ (f : Option ℕ). AreRuns depth f (records ++ bytes ∷ []) w.run.end) (sym from)
    (subst (AreRuns depth p.from (records ++ bytes ∷ [])) long (one_more so_far bytes t.0 t.2 place))

said_deep : (depth : ℕ) (bytes : List ℕ) (p : PortionValue) → told_depth bytes ≡ depth → IsSaidBy bytes p → p.run.depth ≡ depth
said_deep depth bytes p deep said = ap (λ (v : PortionValue). v.run.depth) (taken_run depth bytes p deep said).1

pub taken_deep : (depth : ℕ) (a b : Option (List ℕ)) (p : PortionValue) → IsTaken depth a b p → p.run.depth ≡ depth
taken_deep depth a b p t = said_deep depth t.bytes p t.cut.deep t.said

pub taken_first : (depth : ℕ) (a b : Option (List ℕ)) (p : PortionValue) → IsTaken depth a b p → AreTaken depth a b p
taken_first depth a b p t = record {
  records = t.bytes ∷ [];
  some = omega arith;
  deep = said_deep depth t.bytes p t.cut.deep t.said;
  runs = first_run depth t.bytes p t.cut.deep t.said;
  read = subst (Consumes a b) (sym (append-nil t.bytes)) t.cut.read;
  long = (t.cut.long, tt);
  of = λ from d parts are. first_part from d parts t.bytes p are t.reads;
}

pub taken_next : (depth : ℕ) (a b c : Option (List ℕ)) (p q w : PortionValue) → AreTaken depth a b p → IsTaken depth b c q → Meets p q → w.from ≡ p.from → w.run.end ≡ p.run.end + q.run.end
    → w.run.depth ≡ p.run.depth → ((xs ys : List ℕ) (f g : Option ℕ) (depth : ℕ) → IsPortion xs f depth p → IsPortion ys g depth q → IsPortion (xs ++ ys) f depth w) → AreTaken depth a c w
taken_next depth a b c p q w so_far next meets from end same joins = record {
  records = so_far.records ++ next.bytes ∷ [];
  some = omega (arith, length-append so_far.records (next.bytes ∷ []));
  deep = same ∙ so_far.deep;
  runs = next_run depth p q w so_far.records next.bytes so_far.runs next.cut.deep next.said meets from end;
  read = subst (Consumes a c) (sym (concat-append so_far.records (next.bytes ∷ []) ∙ ap (λ l. concat so_far.records ++ l) (append-nil next.bytes))) (Consumes-trans a b c _ _ so_far.read next.cut.read);
  long = all_and so_far.records next.bytes so_far.long next.cut.long;
  of = λ from d parts are.
      let last = last_of d from parts so_far.records next.bytes are in
      let place = behind from (length (concat last.front)) in
      subst (λ l. IsPortion l from d w) (sym last.whole) (joins (concat last.front) last.part from place d (so_far.of from d last.front last.are) (next.reads last.part place d last.is));
}

pub counted_first : (depth : ℕ) (a b : Option (List ℕ)) (p : PortionValue) → IsTaken depth a b p → AreCounted depth 1 a b p
unfolding taken_first
counted_first depth a b p t = record { taken = taken_first depth a b p t; counted = refl }

pub counted_next : (depth number next_number : ℕ) (a b c : Option (List ℕ)) (p q w : PortionValue) → AreCounted depth number a b p → next_number ≡ number + 1 → IsTaken depth b c q → Meets p q
    → w.from ≡ p.from → w.run.end ≡ p.run.end + q.run.end → w.run.depth ≡ p.run.depth
    → ((xs ys : List ℕ) (f g : Option ℕ) (depth : ℕ) → IsPortion xs f depth p → IsPortion ys g depth q → IsPortion (xs ++ ys) f depth w) → AreCounted depth next_number a c w
unfolding taken_next
counted_next depth number next_number a b c p q w so_far one next meets from end same joins = record {
  taken = taken_next depth a b c p q w so_far.taken next meets from end same joins;
  counted = omega (arith, one, so_far.counted, length-append so_far.taken.records (next.bytes ∷ []));
}

pub joined_all : (depth : ℕ) (a b c : Option (List ℕ)) (p : PortionValue) → ((part : List ℕ) (f : Option ℕ) (d : ℕ) (r : List ℕ) → IsRecord part f d r → HasItsLength r)
    → AreTaken depth a b p → ReadsToEnd b c [] → IsJoined depth a c p
joined_all depth a b c p law so_far end = record {
  stream = concat so_far.records;
  holds = record { records = so_far.records; whole = refl; some = so_far.some; runs = so_far.runs };
  read = (subst (Consumes a c) (append-nil (concat so_far.records)) (Consumes-trans a b c _ [] so_far.read end.0), end.1);
  of = λ from parts records e are.
      so_far.of from depth parts (subst (AreRecords depth from parts) (sym (one_cut so_far.records records so_far.long (all_long depth from parts records law are) e)) are);
}
