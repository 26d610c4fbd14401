-- Chunk queues and their worker handles, as contracts see them.
use Rattle.std.specs.Prelude.{◌≡◌, ℕ, ◌<◌, List, [], All, length, slice_index_or, sum_by, count_by, nat_eq, nat_lt, if◌then◌else◌, Bool, false, refl}
use Rattle.std.specs.Coded.{Coded, code_by, coded×, coded_ℕ, coded_bool, coded_list}
use Rattle.atomic_table.specs.Seated.{table_id_coded}
pub use Rattle.atomic_table.specs.Seated.{TableId}

-- which claims they are, and how many chunks and workers they have
pub record ClaimsValue : Type 0 where
  pub id : TableId
  pub pieces : ℕ
  pub workers : ℕ

abbrev pub claims_code : Coded ClaimsValue
claims_code = code_by (TableId × (ℕ × ℕ)) (coded× table_id_coded (coded× coded_ℕ coded_ℕ)) (λ c. (c.id, (c.pieces, c.workers))) (λ p. record { id = p.0; pieces = p.1.0; workers = p.1.1 }) (λ _. refl)

-- of which claims it is, its place among the worker handles, the numbers that it got in their order, and whether it got
-- `None`
pub record SeatValue : Type 0 where
  pub id : TableId
  pub number : ℕ
  pub got : List ℕ
  pub spent : Bool

abbrev pub seat_code : Coded SeatValue
seat_code = code_by (TableId × (ℕ × (List ℕ × Bool))) (coded× table_id_coded (coded× coded_ℕ (coded× (coded_list coded_ℕ) coded_bool))) (λ c. (c.id, (c.number, (c.got, c.spent)))) (λ p. record { id = p.0; number = p.1.0; got = p.1.1.0; spent = p.1.1.1 }) (λ _. refl)

-- a worker handle that has taken nothing
abbrev pub fresh_seat : TableId → ℕ → SeatValue
fresh_seat id number = record { id = id; number = number; got = []; spent = false }

-- the worker handles of fresh claims, each at its place
abbrev pub AreFresh : TableId → List SeatValue → Type 0
AreFresh id seats = (i : ℕ) (d : SeatValue) → i < length seats → slice_index_or seats i d ≡ fresh_seat id i

-- all worker handles of these claims: as many as there are workers, each of them of these claims; no worker handle can
-- stand there twice
pub record AllSeats (claims : ClaimsValue) (seats : List SeatValue) : Type 0 where
  pub count : length seats ≡ claims.workers
  pub of_these : All (λ s. s.id ≡ claims.id) seats

-- how often x stands in the list
abbrev pub times : ℕ → List ℕ → ℕ
times x xs = count_by (λ y. nat_eq y x) xs

-- 1 below n, and else 0
abbrev pub once_below : ℕ → ℕ → ℕ
once_below x n = if nat_lt x n then 1 else 0

-- the worker handles together got each number below n once, and no other
abbrev pub EachGotOnce : List SeatValue → ℕ → Type 0
EachGotOnce seats n = (x : ℕ) → sum_by (λ s. times x s.got) seats ≡ once_below x n
