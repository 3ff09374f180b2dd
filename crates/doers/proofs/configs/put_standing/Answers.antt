-- `doers::configs::put_standing` meets its contract. Assumes nothing.
use Rattle.algorithm.specs.Table.{with_role, with_term}
use Rattle.table.proofs.HeldLaws.{again}
use Rattle.doers.proofs.configs.put_standing.Goals as goal

pub returns : goal.returns
returns c = again (with_term c.args.term.0) (with_role c.args.role) c.requires.within c.put_term.ensures c.put_role.ensures
