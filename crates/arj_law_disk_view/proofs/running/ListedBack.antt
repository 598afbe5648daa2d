-- Where a binding is current after a step it was before, and the entry is as it was.
use Rattle.arj_law_parts.proofs.Words
use Words.{◌≡◌, ◌==◌, ℕ, Bool, true, false, List, [], ◌∷◌, Option, Some, None, refl, sym, ◌∙◌, ap, arith, option_map, ObjectState, Uid}
use Words.{entry, Pair, held_at, Naming, entry_of, listed_entry, uid_number}
use Rattle.arj_law_disk_view.proofs.Terms
use Terms.{Effect, Follows, Whole, World, after, run, AreOnlyOf, is_only_of, only_decides, Named, Office, Confirming, Gone, Hold, Idle}
use Terms.{Packed, Preparing, Stage, is_gone, is_idle, is_open, falls_to, never, never_some, some_is, write_clears, SeesEntry, KnowsKinds}
use Terms.{packed_entry, IsFixed, IsLater, Kinds, OnlyMemory, Answering, Change, Changes, Deciding, Quietly, SeesNaming, IsCurrent}
use Terms.machine as Effects
use Rattle.arj_law_disk.proofs.machine.Loading.{entry_is_last}
use Rattle.arj_law_disk.specs.machine.{NamingLaws.HoldsWrite, State.entry_in}

-- ---- stages

-- who works has worked before, and whom a coordinator has it had
pub idle_before : (W V : World) → Whole W → Whole V → IsLater W V → (t : ℕ) → is_idle (V.disk.stage t) ≡ true →
    is_idle (W.disk.stage t) ≡ true
idle_before W V whole then later t idle = by (W.disk.stage t) refl
  where
    begun : W.disk.begun t ≡ true → ⊥
    begun b = never idle (let core = then.core in core.fresh.begun t (later.begun t b))

    apart : (g : Stage) → is_idle g ≡ true → is_gone g ≡ true → ⊥
    apart Idle i g = absurd (cc g)
    apart Preparing i g = absurd (cc i)
    apart Confirming i g = absurd (cc i)
    apart Gone i g = absurd (cc i)

    by : (g : Stage) → W.disk.stage t ≡ g → is_idle g ≡ true
    by Idle is = refl
    by Preparing is = absurd (begun (let core = whole.core in core.fresh.open_begun t (ap is_open is)))
    by Confirming is = absurd (begun (let core = whole.core in core.fresh.open_begun t (ap is_open is)))
    by Gone is = absurd (apart (V.disk.stage t) idle (later.gone t (ap is_gone is)))

pub there_before : (W V : World) → IsLater W V → (t : ℕ) → is_gone (V.disk.stage t) ≡ false → is_gone (W.disk.stage t) ≡ false
there_before W V later t not = falls_to (is_gone (W.disk.stage t)) (λ gone. never (later.gone t gone) not)

-- ---- a current binding has the write lock

pub holds_write : (x : ℕ) (tops : Kinds) (A : Office) → Named A → KnowsKinds tops → IsFixed tops A.world.disk → (n : Naming) →
    SeesNaming x tops n A.world.disk A.names → (u : Uid) (v : ℕ) → IsCurrent x tops A.world.disk n u v → HoldsWrite A (uid_number u)
holds_write x tops A c kinds fixed n seen u v is =
    (ap (λ f. f (uid_number u)) fixed.serial ∙ kinds.apart (uid_number u) is.is_top, is.works, (2, row, omega arith))
  where
    untold : (t : ℕ) → is_gone (A.world.disk.stage t) ≡ false → A.names.told t ≡ false
    untold t not = falls_to (A.names.told t) (λ on. never (c.grants.told t on).0 not)

    open_yet : (g : Stage) → is_idle g ≡ true → is_gone g ≡ false
    open_yet Idle i = refl
    open_yet Preparing i = refl
    open_yet Confirming i = refl
    open_yet Gone i = absurd (cc i)

    row : A.names.row (uid_number u) ≡ Some 2
    row = (let o = seen.object is.object is.there in o.made u is.made is.of is.unrecorded (
      untold (uid_number u) (open_yet (A.world.disk.stage (uid_number u)) is.works),
      untold (A.world.disk.root (uid_number u)) is.rooted,
    ))

-- ---- the entry

-- the stores of the entry at naming are the machine's
pub stores_are : (x : ℕ) (tops : Kinds) (d : Pair) (A : Office) → SeesEntry x d A.world.disk →
    (let e = listed_entry x d in e.stores) ≡ A.world.disk.entry.content
stores_are x tops d A seen = by (held_at (entry x) d) (let p = seen.pair in p.held_is)
  where
    by : (o : Option ObjectState) → option_map packed_entry o ≡ Some A.world.disk.entry →
        (let e = entry_of o in e.stores) ≡ A.world.disk.entry.content
    by None is = absurd (cc is)
    by (Some s) is = ap (λ (p : Packed). p.content) (some_is refl is)

-- it stays where nothing is prepared of it and nobody is confirmed
effect_leaves : (g : ℕ → Bool) (W : World) (e : Effect) → is_only_of (only_decides g) e ≡ true → Effects.Allowed W e →
    W.disk.entry_pend ≡ None → ((after W e).disk.entry ≡ W.disk.entry) × ((after W e).disk.entry_pend ≡ None)
effect_leaves g W (Effects.MoveEntry h) only can none = absurd (never_some can.0 none)
effect_leaves g W (Effects.Enter z) only can none = absurd (cc only)
effect_leaves g W (Effects.FinishEntry h) only can none = (refl, refl)
effect_leaves g W (Effects.DropEntry h) only can none = (refl, refl)
effect_leaves g W (Effects.Forget r h) only can none = (refl, refl)
effect_leaves g W (Effects.Begin z p) only can none = (refl, none)
effect_leaves g W (Effects.Take z s) only can none = (refl, none)
effect_leaves g W (Effects.Seal z) only can none = (refl, none)
effect_leaves g W (Effects.Intend z nodes) only can none = (refl, none)
effect_leaves g W (Effects.Decide z) only can none = (refl, none)
effect_leaves g W (Effects.Remove z nodes) only can none = (refl, none)
effect_leaves g W (Effects.EndBare z) only can none = (refl, none)
effect_leaves g W (Effects.Halt z) only can none = (refl, none)
effect_leaves g W (Effects.Keep z s) only can none = (refl, none)
effect_leaves g W (Effects.Move s h) only can none = (refl, none)
effect_leaves g W (Effects.Finish s h) only can none = (refl, none)
effect_leaves g W (Effects.Drop s h) only can none = (refl, none)
effect_leaves g W (Effects.Agree z) only can none = (refl, none)
effect_leaves g W (Effects.Pass z) only can none = (refl, none)
effect_leaves g W (Effects.Send m) only can none = (refl, none)

effects_leave : (g : ℕ → Bool) (W : World) (es : List Effect) → AreOnlyOf (only_decides g) es → Follows W es → W.disk.entry_pend ≡ None →
    (run W es).disk.entry ≡ W.disk.entry
effects_leave g W [] only can none = refl
effects_leave g W (e ∷ es) only can none = let one = effect_leaves g W e only.0 can.0 none in
    effects_leave g (after W e) es only.1 can.1 one.1 ∙ one.0

-- by what a step changes, where a top has the write lock before and after
pub entry_same : (o : Change) (A B : Office) → Named A → Named B → Changes o A B → (t : ℕ) → HoldsWrite A t → HoldsWrite B t →
    B.world.disk.entry ≡ A.world.disk.entry
entry_same o A B before then changed t held holds = by o changed
  where
    memory : OnlyMemory A B → B.world.disk.entry ≡ A.world.disk.entry
    memory only = entry_is_last B then t holds ∙ (λ i. entry_in ((let l = only.later in l.first_entry) i) (only.tops i))
        ∙ sym (entry_is_last A before t held)

    free : (p : Option Hold) → A.world.disk.entry_pend ≡ p → A.world.disk.entry_pend ≡ None
    free None is = is
    free (Some h) is = absurd (write_clears A before t held.0 held.1 held.2 h is)

    by : (o : Change) → Changes o A B → B.world.disk.entry ≡ A.world.disk.entry
    by Quietly c = memory c
    by (Answering z r) c = memory c.0
    by (Deciding z keeps) c = let a = c.along in ap (λ (W : World). W.disk.entry) (sym a.here)
        ∙ effects_leave (λ y. y == z) A.world a.effects a.only a.allowed (free A.world.disk.entry_pend refl)
