-- `doers::configs::elect` meets its contract. Assumes nothing.
use Rattle.doers.proofs.VoteLaws.{elect-put}
use Rattle.doers.proofs.configs.elect.Goals as goal

pub returns : goal.returns
returns c =
    elect-put _ _ _ _ _ _ _ _ _ c.requires.within c.requires.t_value c.vote.ensures c.put_standing.ensures c.put_config.ensures (cc) (cc) (cc)
