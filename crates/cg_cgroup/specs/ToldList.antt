-- What is told of each limit file beyond `LimitFile`, at its number; `None` for one of which nothing is.
use Rattle.std.specs.Prelude.{◌≡◌, List, length, Option}
use Rattle.cg_cgroup.specs.OtherKinds.{all_others}
use Rattle.cg_cgroup.specs.declared.told.ToldFile.{ToldFile}

pub record ToldList : Type 0 where
  pub entries : List (Option ToldFile)
  pub whole : length entries ≡ length all_others
