use Rattle.std.proofs.Common.{◌≡◌, ◌++◌, drop, None}
use Rattle.arj_naming.specs.Entries.{IsOnce}
use Rattle.arj_naming.specs.Said.{said}
use Rattle.arj_protocol.specs.Confirm.{first_of_each, lock_all, refused_exclude}
use Rattle.arj_naming.proofs.part.Part.lock_all.Given as goal

-- the locks that are left make the same of what is there now as all of what was there first, and nothing stands against them
abbrev pub invariant-loop-x : goal.invariant-loop-x
invariant-loop-x l = record {
  part : (lock_all (drop l.x-index l.xs) l.path l.self).part ≡ (lock_all l.xs l.path l.fn.self).part;
  lines : l.out ++ said (lock_all (drop l.x-index l.xs) l.path l.self).outs ≡ l.fn.out ++ said (lock_all l.xs l.path l.fn.self).outs;
  free : first_of_each (refused_exclude l.path l.self) (drop l.x-index l.xs) ≡ None;
  once : IsOnce (drop l.x-index l.xs);
}
