-- Whoever is decided and counts, and didn't write, includes a store, and who doesn't count has taken no Yes and was confirmed as one that
-- changes nothing: each effect of the disk machine keeps it.
use Rattle.arj_law_parts.proofs.Words
use Words.{◌≡◌, ◌==◌, ◌&&◌, ◌||◌, ◌∙◌, ℕ, Bool, true, false, not, List, [], ◌∷◌, ap, inl, refl, subst, sym, ⊎_elim}
use Rattle.arj_law_serial.proofs.Terms
use Terms.{Allowed, Effect, Follows, Whole, World, only_decides, Office, Done, is_open, undecided, or_left, put_cases, effect_keeps, Along}
use Terms.{Answering, Change, Changes, Deciding, Quietly, goes_along, goes_by, AreDim, AreStill}
use Terms.Effects
use Terms.words as disk
use Rattle.arj_law_disk.specs.machine.{Effects.after, Effects.done_of, Effects.run, Words.In}
use Rattle.arj_law_disk_view.proofs.running.Decisions.{Goes}
use Rattle.arj_law_serial.proofs.joint.Ending.{Ends, ends_along, ends_by, ends_of}
use Rattle.arj_law_serial.specs.joint.MarkedTops.{AreJoiners}

abbrev Joins : World → Type 0
Joins W = AreJoiners W.disk.tops × AreStill W.disk.tops × AreDim W.disk

effect_joins : (W : World) (e : Effect) → Allowed W e → Whole W → Joins W → Joins (after W e)
effect_joins W (Effects.Decide t) can whole (joins, still, dim) = (
  λ d i counts plain. ⊎_elim
      (λ (same : done_of W.disk t ≡ d). subst (λ (z : Done). (s : ℕ) × (disk.has s z.plan.joins ≡ true)) same (whole.core.covered.plain t
      (conf (ap (λ (z : Done). z.counts) same ∙ counts)) open_yet (ap (λ (z : Done). z.plan.writes) same ∙ plain)).0)
      (λ (old : In d W.disk.tops). joins d old counts plain) i,
  λ d i light s. ⊎_elim
      (λ (same : done_of W.disk t ≡ d). subst (λ (z : Done). z.got s ≡ false) same
      (whole.core.light.none t s (turn (W.disk.light t) (ap (λ (z : Done). z.counts) same ∙ light))))
      (λ (old : In d W.disk.tops). still d old light s) i,
  λ d i light. ⊎_elim
      (λ (same : done_of W.disk t ≡ d).
      subst (λ (z : Done). W.disk.light z.top ≡ true) same (turn (W.disk.light t) (ap (λ (z : Done). z.counts) same ∙ light)))
      (λ (old : In d W.disk.tops). dim d old light) i,
)
  where
    next : Whole (after W (Effects.Decide t))
    next = effect_keeps W (Effects.Decide t) can whole

    conf : (let z = done_of W.disk t in z.counts) ≡ true → W.disk.conf t ≡ true
    conf counts = next.core.journal.counted (done_of W.disk t) (inl refl) counts

    open_yet : undecided W.disk t ≡ true
    open_yet = (λ i. not (can.1 i) && (is_open (W.disk.stage t) || can.0 i)) ∙ by (is_open (W.disk.stage t))
      where
        by : (b : Bool) → (b || true) ≡ true
        by true = refl
        by false = refl

    turn : (b : Bool) → not b ≡ false → b ≡ true
    turn true is = refl
    turn false is = absurd (cc is)
effect_joins W (Effects.Begin t p) can whole joins = joins
effect_joins W (Effects.Take t s) can whole joins = joins
effect_joins W (Effects.Seal t) can whole joins = joins
effect_joins W (Effects.Intend t nodes) can whole joins = joins
effect_joins W (Effects.Remove t nodes) can whole joins = joins
effect_joins W (Effects.EndBare t) can whole joins = joins
effect_joins W (Effects.Halt t) can whole joins = joins
effect_joins W (Effects.Keep t s) can whole joins = joins
effect_joins W (Effects.Move s h) can whole joins = joins
effect_joins W (Effects.Finish s h) can whole joins = joins
effect_joins W (Effects.Drop s h) can whole joins = joins
effect_joins W (Effects.Agree t) can whole joins = joins
effect_joins W (Effects.Pass t) can whole (joins, still, dim) = (
  joins,
  still,
  λ d i light. put_cases (λ b. b ≡ true) t (W.disk.light t || undecided W.disk t) W.disk.light d.top
      (λ same. or_left (W.disk.light t) (undecided W.disk t) (ap W.disk.light (sym same) ∙ dim d i light)) (λ other. dim d i light),
)
effect_joins W (Effects.Enter t) can whole joins = joins
effect_joins W (Effects.MoveEntry h) can whole joins = joins
effect_joins W (Effects.FinishEntry h) can whole joins = joins
effect_joins W (Effects.DropEntry h) can whole joins = joins
effect_joins W (Effects.Forget r h) can whole joins = joins
effect_joins W (Effects.Send m) can whole joins = joins

all_join : (W : World) (es : List Effect) → Follows W es → Whole W → Joins W → Joins (run W es)
all_join W [] can whole joins = joins
all_join W (e ∷ es) can whole joins = all_join (after W e) es can.1 (effect_keeps W e can.0 whole) (effect_joins W e can.0 whole joins)

-- from one state of the machine to another, by which these may have their commits end
abbrev pub GoesOn : (ℕ → Bool) → World → World → Type 0
GoesOn g W V = Goes W V × (Joins W → Joins V) × Ends g W V

pub goes_on_along : (g : ℕ → Bool) (W V : World) → Whole W → Along (record { from = W; noted = only_decides g }) V → GoesOn g W V
goes_on_along g W V whole a =
    (goes_along g W V whole a, (λ joins. subst Joins a.here (all_join W a.effects a.allowed whole joins)), ends_along g W V whole a)

-- by the changes of a step
pub goes_on_by : (o : Change) (A B : Office) → Whole A.world → Changes o A B → GoesOn (ends_of o) A.world B.world
goes_on_by o A B whole c = (goes_by o A B whole c, joins_by o c, ends_by o A B whole c)
  where
    joins_by : (q : Change) → Changes q A B → Joins A.world → Joins B.world
    joins_by Quietly z (joins, still, dim) = (
      subst AreJoiners (sym z.tops) joins,
      subst AreStill (sym z.tops) still,
      λ d i light. (let o = z.onward in o.light d.top (dim d (subst (In d) z.tops i) light)),
    )
    joins_by (Answering t r) z (joins, still, dim) = (
      subst AreJoiners (sym (let q = z.0 in q.tops)) joins,
      subst AreStill (sym (let q = z.0 in q.tops)) still,
      λ d i light. (let q = z.0 in let o = q.onward in o.light d.top (dim d (subst (In d) q.tops i) light)),
    )
    joins_by (Deciding t keeps) z joins = (goes_on_along (λ y. y == t) A.world B.world whole z.along).1 joins
