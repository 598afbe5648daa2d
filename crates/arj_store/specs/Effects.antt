-- What the calls of a store do with the pair, as rows of small effects. What a call did, ended or stopped, is a row of
-- them, so that nothing has to be said of stops: a stopped call did fewer.
use Rattle.std.specs.Prelude.{◌≡◌, ◌≢◌, ◌⊎◌, ℕ, List, [], ◌∷◌, ◌++◌, map, None, IsSome, MatchOption}
use Rattle.arj_base.specs.declared.state.ObjectState.{ObjectState}
use Rattle.arj_base.specs.declared.uid.Uid.{Uid}
use Rattle.arj_disk.specs.Says.{names}
use Rattle.arj_store.specs.Pair.{Pair, SamePair, Adds, Drops, held_after}

-- a small effect that a call has on the pair
pub data Effect : Type 0 where
  -- the action becomes prepared with these states
  Keep : Uid → List ObjectState → Effect
  -- the state that the action has prepared of the object becomes the committed one; the action stays prepared
  Move : Uid → Uid → Effect
  -- the action, whose states are all committed, is prepared no more
  Finish : Uid → Effect
  -- the action is prepared no more
  Drop : Uid → Effect

-- the new state of one object, which the action has prepared, is its committed state now; all else is as before
pub record MovesOne (p q : Pair) (act u : Uid) : Type 0 where
  pub prepared : names (p.pend act) u
  pub here : q.held u ≡ held_after (p.pend act) u (p.held u)
  pub others : (w : Uid) → w ≢ u → q.held w ≡ p.held w
  pub pending : (a : Uid) → q.pend a ≡ p.pend a

-- each state that the action has prepared is the committed one of its object
abbrev pub AreMoved : Pair → Uid → Type 0
AreMoved p act = (u : Uid) → p.held u ≡ held_after (p.pend act) u (p.held u)

-- the effect makes the second pair of the first
abbrev pub Does : Effect → Pair → Pair → Type 0
Does (Keep act states) p q = (p.pend act ≡ None) × Adds p q act states
Does (Move act u) p q = MovesOne p q act u
Does (Finish act) p q = IsSome (p.pend act) × AreMoved p act × Drops p q act
Does (Drop act) p q = IsSome (p.pend act) × Drops p q act

-- the effects, one after the other, make the second pair of the first
abbrev pub Row : List Effect → Pair → Pair → Type 0
Row [] p q = SamePair p q
Row (e ∷ es) p q = (m : Pair) × Does e p m × Row es m q

-- the objects of states as they are prepared
abbrev pub objects : List (Uid × List ℕ) → List Uid
objects states = map (λ e. e.0) states

-- a commit of what is prepared: each object's state, and then the action's end
abbrev pub commit_row : Uid → List (Uid × List ℕ) → List Effect
commit_row act states = map (Move act) (objects states) ++ Finish act ∷ []

-- What a prepare did that ended or was stopped: nothing, or the action is prepared.
abbrev pub DidPrepare : Pair → Pair → Uid → List ObjectState → Type 0
DidPrepare p q act states = Row [] p q ⊎ Row (Keep act states ∷ []) p q

-- What a commit did that ended: where nothing was prepared nothing, else all.
abbrev pub DidCommit : Pair → Pair → Uid → Type 0
DidCommit p q act = MatchOption (p.pend act) (Row [] p q) (λ states. Row (commit_row act states) p q)

-- What a commit did that was stopped: some states were moved, or it did all.
abbrev pub DidSome : Pair → Pair → Uid → Type 0
DidSome p q act = (us : List Uid) × Row (map (Move act) us) p q

-- What an abort did that ended: where nothing was prepared nothing, else the action is dropped.
abbrev pub DidAbort : Pair → Pair → Uid → Type 0
DidAbort p q act = MatchOption (p.pend act) (Row [] p q) (λ states. Row (Drop act ∷ []) p q)
