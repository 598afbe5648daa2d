use Rattle.std.proofs.Common.{◌≡◌, ◌||◌, ℕ, true, drop}
use Rattle.arj_base.specs.declared.uid.Uid.{Uid}
use Rattle.arj_base.specs.Rows.{is_on}
use Rattle.arj_manager.specs.Index.{uses}
use Rattle.arj_manager.proofs.index.note.Given as goal

-- those so far, with those that are left, are all of the path; what stood in the index stands there
abbrev pub invariant-loop-uid : goal.invariant-loop-uid
invariant-loop-uid l = record {
  here : (u : Uid) → (uses l.index u l.x || is_on (drop l.uid-index l.uids) u) ≡ (uses l.fn.index u l.x || is_on l.uids u);
  stays : (u : Uid) (y : ℕ) → uses l.fn.index u y ≡ true → uses l.index u y ≡ true;
}
