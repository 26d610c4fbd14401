use Rattle.jx_book.proofs.Sound.{core as law}
use Rattle.jx_book.proofs.lock.book.Book.open.Goals as goal

pub returns-clause-core : goal.returns-clause-core
returns-clause-core g c = law

pub returns-in_err-shares-clause-core : goal.returns-in_err-shares-clause-core
returns-in_err-shares-clause-core g c = law
