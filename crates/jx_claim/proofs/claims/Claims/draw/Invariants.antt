use Rattle.jx_claim.proofs.claims.Claims.draw.Given as goal

abbrev pub ghosts-take : goal.ghosts-take
ghosts-take a = record { pieces = a.self.now.pieces }
