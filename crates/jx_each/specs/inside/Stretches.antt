-- Bytes among which no element ends.
use Rattle.std.specs.Prelude.{◌≡◌, ℕ, List, [], ◌++◌, Bool, true, drop, take, if◌then◌else◌, slice_range}
use Rattle.jx_compact.specs.declared.place.Place.{Place}
use Rattle.jx_compact.specs.declared.place.Place.TheVariants.{Between}
use Rattle.jx_each.specs.declared.deep.Walk.{Walk}
use Rattle.jx_each.specs.declared.nest.Nest.{Nest}
use Rattle.jx_each.specs.declared.stand.Stage.{Stage}
use Rattle.jx_each.specs.declared.stand.Stage.TheVariants.{Array}
use Rattle.jx_each.specs.declared.stand.LineStand.{LineStand}
use Rattle.jx_each.specs.Machine.{Aim, Made, run}

abbrev pub spot : Place → ℕ → Stage → Bool → List ℕ → List ℕ → Made
spot place height stage takes lines part = record { stand = record { place = place; height = height; stage = stage; takes = takes }; lines = lines; part = part }

-- after an element of the container, an array
abbrev pub spot_in_array : Bool → LineStand
spot_in_array takes = record { place = Between; height = 1; stage = Array; takes = takes }

-- each one is kept where elements are kept at all, and they lead from one place and height to another
pub record IsStretch (place : Place) (height : ℕ) (w : List ℕ) (to : Place) (high : ℕ) : Type 0 where
  pub runs : (aim : Aim) (stage : Stage) (takes : Bool) (lines part : List ℕ)
      → run aim (spot place height stage takes lines part) w ≡ spot to high stage takes lines (part ++ (if takes then w else []))

-- none is kept, and the byte after them stands where the first one stood
pub record IsPassed (place : Place) (w : List ℕ) : Type 0 where
  pub runs : (aim : Aim) (height : ℕ) (stage : Stage) (takes : Bool) (lines part : List ℕ)
      → run aim (spot place height stage takes lines part) w ≡ spot place height stage takes lines part

-- the bytes that stay of them are copied after what was kept, and they lead from one place and height to another
pub record IsCopied (takes : Bool) (place : Place) (height : ℕ) (w part : List ℕ) (to : Place) (high : ℕ) (longer : List ℕ) : Type 0 where
  pub runs : (aim : Aim) (stage : Stage) (lines : List ℕ) → run aim (spot place height stage takes lines part) w ≡ spot to high stage takes lines longer

-- the bytes that wait to be copied, where elements are kept at all
abbrev pub waiting : Bool → List ℕ → Walk → List ℕ
waiting takes xs walk = if takes then slice_range xs walk.start walk.end else []

-- the bytes from the end of one walk to that of another are walked over, and what was kept of them is copied
pub record IsWalked (takes : Bool) (xs : List ℕ) (old : Walk) (part : List ℕ) (new : Walk) (longer : List ℕ) : Type 0 where
  pub runs : (aim : Aim) (stage : Stage) (lines : List ℕ)
      → run aim (spot old.place old.height stage takes lines (part ++ waiting takes xs old)) (slice_range xs old.end new.end)
      ≡ spot new.place new.height stage takes lines (longer ++ waiting takes xs new)

-- in the container, an array: the lines end where the element begins that is open, and what is kept of it follows them
abbrev pub opened : Place → Nest → List ℕ → Made
opened place nest out = spot place nest.height Array true (take nest.begin out) (drop nest.begin out)

-- bytes lead from what was made before them to what is made after them
pub record IsLed (place : Place) (nest : Nest) (out w : List ℕ) (to : Place) (next : Nest) (longer : List ℕ) : Type 0 where
  pub runs : (aim : Aim) → run aim (opened place nest out) w ≡ opened to next longer
