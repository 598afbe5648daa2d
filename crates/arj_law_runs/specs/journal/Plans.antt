-- What the plan of a commit uses, by the journal.
use Rattle.std.specs.Prelude.{◌≡◌, ◌⊎◌, true, List}
use Rattle.arj_base.specs.declared.uid.Uid.{Uid}
use Rattle.arj_model.specs.Actions.{path, uids}
use Rattle.arj_law_runs.specs.journal.Book.{Access, Book}

-- the path of who made the access
abbrev pub path_of : Book → Access → List Uid
path_of B a = uids (path B.acts (let c = a.act in c.label))
