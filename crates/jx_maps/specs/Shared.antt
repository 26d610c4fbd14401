-- The shared count of a span.
use Rattle.std.specs.Prelude.{◌≡◌, ℕ, ◌+◌, true, List, [], ◌∷◌, Bool, ◌&&◌, Option, Some, None, is_some, count_by, ◌==◌}
use Rattle.std.specs.List.{list_any}
use Rattle.jx_lex.specs.declared.alphabet.state.LexState.{LexState}
use Rattle.jx_lex.specs.Moves.{move}
use Rattle.jx_maps.specs.declared.link.Link.{Link}
use Rattle.jx_maps.specs.declared.link.Link.TheVariants.{Ahead, State, Fault}
use Rattle.jx_maps.specs.Follow.{SegmentValue}
use Rattle.jx_lex.specs.Ordinal.{ordinal, all_states}

-- the states that are kept after a byte
abbrev pub add_next : Option LexState → List LexState → List LexState
add_next None more = more
add_next (Some t) more = t ∷ more

abbrev pub held_after : ℕ → List LexState → List LexState
held_after byte [] = []
held_after byte (s ∷ ss) = add_next ((move s byte).next) (held_after byte ss)

abbrev pub has : LexState → List LexState → Bool
has s held = list_any (λ t. ordinal t == ordinal s) held

abbrev pub begins : ℕ → LexState → Bool
begins byte s = is_some ((move s byte).begin)

-- how many different states that are kept begin a token start with this byte
abbrev pub beginning : ℕ → List LexState → ℕ
beginning byte held = count_by (λ s. has s held && begins byte s) all_states

unfoldable pub shared_from : List LexState → List ℕ → ℕ
shared_from held [] = 0
shared_from held (b ∷ bs) = beginning b held + shared_from (held_after b held) bs

-- the sum over the bytes, where at the start all states are kept
abbrev pub shared_count : List ℕ → ℕ
shared_count bytes = shared_from all_states bytes

abbrev pub after : List LexState → List ℕ → List LexState
after held [] = held
after held (b ∷ bs) = after (held_after b held) bs

-- a link that stands in a state stands in one of these
abbrev pub HeldAt : List LexState → Link → Type 0
HeldAt held (State t) = has t held ≡ true
HeldAt held (Ahead k) = Unit {0}
HeldAt held (Fault at) = Unit {0}

abbrev pub AllHeld : List LexState → List SegmentValue → Type 0
AllHeld held [] = Unit {0}
AllHeld held (p ∷ ps) = HeldAt held p.next × AllHeld held ps
