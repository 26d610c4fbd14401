use Rattle.std.proofs.Common.{◌≡◌, ◌+◌, ◌*◌, ◌≤◌, ◌<◌, ℕ, suc, ap, arith, length, subst}
use Rattle.jx_file_index.specs.declared.entry.Entry.{Entry}
use Rattle.jx_file_query.specs.inside.Members.{IsLed}
use Rattle.jx_file_query.proofs.Led.{held_among}
use Rattle.jx_file_query.proofs.TextParts.{stands_here}
use Rattle.jx_file_query.proofs.Told.{fewer}
use Rattle.jx_file_query.proofs.among.pass_members.Goals as goal

pub returns-then-not-cuts_name : goal.returns-then-not-cuts_name
returns-then-not-cuts_name c =
    let end = c.chunks.end in
    let n = end + 1 in
    let so_far = c.chunks.invariant.later in
    record {
      later = omega (arith, so_far);
      leads = λ settings chunk text known t hashes was after is.
          let held = c.args.held.now in
          let edges = c.args.edges.now in
          let top = c.in_ok-top.top in
          let next = c.in-Some.next in
          let two = c.lex_of_two_parts.ensures.two in
          let told = c.in-Some.ensures.entry settings chunk text known in
          let inside : n * chunk < length text = told.1 in
          let within : n * chunk ≤ length text = omega (arith, inside) in
          let counted : n < t.count = fewer chunk (length text) t.count n t.counted.enough inside in
          let low : n ≤ t.count = omega (arith, counted) in
          let led = c.in-Some.ensures.leads settings chunk text known t hashes (c.chunks.invariant.leads settings chunk text known t hashes was) in
          held_among settings chunk text known.goes two known.size t.named edges held after top c.args.at n next.among.count next.among.skipped next.entry low
          (stands_here settings chunk text known.goes two n known.size (λ e. absurd (omega (arith, e))) within) within (ap (λ (e : Entry). e.state) told.0) (ap (λ (e : Entry). e.expect) told.0)
          (c.cuts_name.ensures c.if-not-cuts_name.true)
          (subst (λ (k : ℕ). IsLed settings chunk text edges c.args.names.now t held top k next.among) (let e : suc end ≡ n = omega arith in e) led)
          was (is.found top) is.next_is is.begun_is;
    }
