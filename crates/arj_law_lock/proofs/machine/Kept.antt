-- Of a kept binding an incarnation was heard.
use Rattle.arj_law_lock.proofs.Terms.{◌≡◌, ℕ, true, subst, State}
use Rattle.arj_law_lock.proofs.machine.{Claims.Holds, Lasts.kept_holds, Paths.top_root}
use Rattle.arj_law_lock.specs.machine.Laws.{KeptAreNamed}

pub named_kept : {s : State} → Holds s → KeptAreNamed s
named_kept {s} h c i alive = (
  subst (λ (u : ℕ). (s.binding (s.kept u)).named ≡ true) (top_root c.act) (let k = (h.calls c i).sure alive in k.named),
  (kept_holds h c i alive).positive,
)
