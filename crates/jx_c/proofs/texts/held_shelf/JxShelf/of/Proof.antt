-- `of` keeps what the pointer leads to. Assumes `Logic`.
use Rattle.std.proofs.Common.{refl}
use Rattle.jx_c.proofs.Renaming.{handle, renamed}
use Rattle.jx_c.proofs.texts.held_shelf.JxShelf.of.Code as code
use Rattle.jx_c.proofs.texts.held_shelf.JxShelf.of.Statement.{statement}
use Rattle.jx_c.specs.contracts.texts.shelf_share.ShelfShare as inner
use Rattle.jx_c.specs.contracts.texts.held_shelf.JxShelf as held
use Rattle.jx_c.specs.contracts.texts.held_shelf.JxShelf.of.Key.{name as #self}

pub of_spec : {M : Type 1} → statement M
of_spec 𝓤 𝓛 𝓜 𝓡 wired = renamed (handle inner.the_row)
    (record { type = held.the_type; at = λ d. d.inside; held = λ d. d.held; made = λ p h. record { inside = p; held = h }; at_made = λ p h. refl; held_made = λ p h. refl })
    𝓤 𝓛 𝓜 𝓡 #self (code.unfolded 𝓤 𝓛.H 𝓜 𝓡 wired)
