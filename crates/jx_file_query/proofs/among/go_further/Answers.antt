use Rattle.std.proofs.Common.{◌≡◌, ◌+◌, ◌*◌, ◌≤◌, ◌<◌, ℕ, suc, ap, arith, length, subst}
use Rattle.jx_file_index.specs.declared.entry.Entry.{Entry}
use Rattle.jx_file_query.specs.inside.Members.{TellsAt}
use Rattle.jx_file_query.proofs.Led.{led_on}
use Rattle.jx_file_query.proofs.TextParts.{stands_here}
use Rattle.jx_file_query.proofs.Told.{fewer}
use Rattle.jx_file_query.proofs.Wants.{none_wanted}
use Rattle.jx_file_query.proofs.among.go_further.Goals as goal

pub returns-clause-entry : goal.returns-clause-entry
returns-clause-entry c = subst (λ (n : ℕ). TellsAt c.args.index.now n c.in_ok-entry.entry) (let e : c.in_ok-later.later ≡ c.args.at + 1 = omega (arith, c.in_ok-later.ensures) in e) c.in_ok-entry.ensures

pub returns-clause-leads : goal.returns-clause-leads
returns-clause-leads c = λ settings chunk text known t hashes led.
    let at = c.args.at in
    let edges = c.args.edges.now in
    let among = c.args.among in
    let here = c.in_ok-here.here in
    let entry = c.in_ok-entry.entry in
    let next = c.in_ok-next.next in
    let told = c.in_ok-here.ensures settings chunk text known in
    let one : c.in_ok-later.later ≡ suc at = omega (arith, c.in_ok-later.ensures) in
    let later = (subst (λ (n : ℕ). TellsAt c.args.index.now n entry) one c.in_ok-entry.ensures) settings chunk text known in
    let inside : at * chunk < length text = told.1 in
    let further : suc at * chunk < length text = later.1 in
    let within : at * chunk ≤ length text = omega (arith, inside) in
    let beyond : suc at * chunk ≤ length text = omega (arith, further) in
    let two = c.lex_of_two_parts.ensures.two in
    led_on settings chunk text known.goes two known.size c.skipped_parts.ensures.members t.named edges c.args.held.now c.args.top at among.count among.skipped next.count next.skipped here entry
    (fewer chunk (length text) t.count at t.counted.enough inside)
    (stands_here settings chunk text known.goes two at known.size c.requires.other within)
    (stands_here settings chunk text known.goes two (suc at) known.size (λ e. absurd (omega (arith, e))) beyond)
    within beyond (ap (λ (e : Entry). e.sum) told.0) (ap (λ (e : Entry). e.state) told.0) (ap (λ (e : Entry). e.expect) told.0) (ap (λ (e : Entry). e.state) later.0) (ap (λ (e : Entry). e.expect) later.0)
    c.in_ok-next.ensures.counted
    (λ level own is. none_wanted settings chunk text edges c.args.names.now t hashes c.args.top.level at (c.wants_some-wants.ensures (c.in_ok-next.ensures.none level) level) own is)
    led
