use Rattle.std.proofs.Common.{◌∙◌, ◌+◌, Option, arith, refl, subst}
use Rattle.jx_file_build.specs.declared.named_chunks.NamedChunks.{NamedChunks}
use Rattle.jx_file_build.specs.inside.NamedChunks.{AreNamesAt}
use Rattle.jx_file_build.proofs.Fitting.{held_fit}
use Rattle.jx_file_build.proofs.NamesRead.{names_on, none_on, some_begun}
use Rattle.jx_file_build.proofs.Readings.{goes_on}
use Rattle.jx_file_build.proofs.chunk_reading.sum_and_name.Goals as goal

pub returns-in_ok-sum-in-None-clause-turn : goal.returns-in_ok-sum-in-None-clause-turn
returns-in_ok-sum-in-None-clause-turn c = λ h is. absurd cc

pub returns-in_ok-sum-in-None-clause-named : goal.returns-in_ok-sum-in-None-clause-named
returns-in_ok-sum-in-None-clause-named c = λ has_names settings size bytes n whole fits read named.
    let old = c.args.reader.now in
    let new = c.sum_chunk.new.reader in
    let chunk = c.args.chunk.now in
    let law = c.slices_are_told_in_turn.ensures in
    none_on settings size bytes chunk n whole fits old new read (goes_on settings bytes chunk old new read c.in_ok-sum-in-None.ensures.reads)
    (λ q. law.faults settings.mark settings.depth bytes chunk q) has_names
    (subst (λ (o : Option NamedChunks). AreNamesAt has_names settings size bytes n old.outcome o) c.in-None.is named)

pub returns-in_ok-blocks-in-Some-clause-turn : goal.returns-in_ok-blocks-in-Some-clause-turn
returns-in_ok-blocks-in-Some-clause-turn c = some_begun c.name_chunk.new.reader.outcome _ c.in_ok-told-in-Some.ensures.turn

pub returns-in_ok-blocks-in-Some-clause-room : goal.returns-in_ok-blocks-in-Some-clause-room
returns-in_ok-blocks-in-Some-clause-room c = λ fit.
    let was = held_fit c.args.names c.in-Some.names c.in-Some.is fit in
    record { few = was.few; fit = c.in_ok-blocks-in-Some.ensures.fits was.few was.fit }

pub returns-in_ok-blocks-in-Some-clause-named : goal.returns-in_ok-blocks-in-Some-clause-named
returns-in_ok-blocks-in-Some-clause-named c = λ has_names settings size bytes n whole fits read named.
    let e = c.in_ok-told-in-Some.ensures in
    let told = c.in_ok-told-in-Some.told in
    let law = c.slices_are_told_in_turn.ensures in
    let old = c.args.reader.now in
    let new = c.name_chunk.new.reader in
    let chunk = c.args.chunk.now in
    let start = read.start in
    let count = read.read.count in
    names_on settings size bytes chunk n whole fits old new read (goes_on settings bytes chunk old new read e.reads) (λ q. law.faults settings.mark settings.depth bytes chunk q)
    (old.start + old.count) (omega (arith, start, count))
    c.in-Some.names _ told.names refl c.in_ok-blocks-in-Some.ensures.chunks (λ q. law.marks settings.mark settings.depth bytes chunk q) e.named
    (λ names own are is. c.in_ok-blocks-in-Some.ensures.are names own are (c.deref.ensures.value ∙ is)) has_names
    (subst (λ (o : Option NamedChunks). AreNamesAt has_names settings size bytes n old.outcome o) c.in-Some.is named)

pub name_chunk-requires-clause-turn : goal.name_chunk-requires-clause-turn
name_chunk-requires-clause-turn c = c.requires.turn c.in-Some.names c.in-Some.is
