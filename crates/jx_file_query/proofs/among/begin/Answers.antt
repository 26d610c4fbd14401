use Rattle.std.proofs.Common.{◌*◌, ◌≤◌, ◌<◌, List, ap, arith, length, reverse, ◌∙◌}
use Rattle.std.proofs.lemmas.Bool.{not-false}
use Rattle.jx_index.specs.declared.finder.Cursor.{Cursor}
use Rattle.jx_index.specs.inside.Trie.{first_open}
use Rattle.jx_file_index.specs.declared.entry.Entry.{Entry}
use Rattle.jx_file_query.proofs.Led.{started}
use Rattle.jx_file_query.proofs.Overs.{top_of}
use Rattle.jx_file_query.proofs.TextParts.{stands_here}
use Rattle.jx_file_query.proofs.Told.{fewer}
use Rattle.jx_file_query.proofs.among.begin.Goals as goal

pub returns : goal.returns
returns c = λ settings chunk text known t hashes was.
    let held = c.args.held.now in
    let at = c.args.at in
    let top = c.in_ok-top.top in
    let here = c.in_ok-here.here in
    let told = c.in_ok-here.ensures settings chunk text known in
    let inside : at * chunk < length text = told.1 in
    let within : at * chunk ≤ length text = omega (arith, inside) in
    let counted : at < t.count = fewer chunk (length text) t.count at t.counted.enough inside in
    let low : at ≤ t.count = omega (arith, counted) in
    let two = c.lex_of_two_parts.ensures.two in
    let o = top_of (reverse held.state.opened.items) top (c.in_ok-top.ensures ∙ ap (λ (xs : List Cursor). first_open (reverse xs)) c.deref.ensures.value) in
    started settings chunk text known.goes two known.size c.skipped_parts.ensures.held t.named c.args.edges.now held top o.outer at here low
    (stands_here settings chunk text known.goes two at known.size c.requires.other within) within (ap (λ (e : Entry). e.state) told.0) (ap (λ (e : Entry). e.expect) told.0)
    o.is (not-false top.is_object c.if-not-top.false) (c.may_start.ensures c.if-not-may_start.false) was
