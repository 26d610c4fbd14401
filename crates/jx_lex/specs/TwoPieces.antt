-- The reading of two parts, one after the other.
use Rattle.std.specs.Prelude.{◌++◌}
use Rattle.jx_lex.specs.declared.alphabet.state.LexState.{LexState}
use Rattle.jx_lex.specs.Lex.{LexExit, Track, stops_at}

-- the second is read from the state that the first leads to; after a fault nothing is read
abbrev pub right_of : LexExit → (LexState → Track) → Track
right_of (LexExit.state s) right = right s
right_of (LexExit.fault at) right = stops_at at

-- the track of the first, and after it that of the second
abbrev pub joined : Track → (LexState → Track) → Track
joined left right =
    let r = right_of left.exit right in
    record { marks = left.marks ++ r.marks; ends = left.ends ++ r.ends; exit = r.exit }
