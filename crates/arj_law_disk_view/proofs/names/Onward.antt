-- What every effect leaves of who was confirmed as one that changes nothing, of who is at its end, and of what begins; and who may not be
-- confirmed isn't.
use Rattle.arj_law_parts.proofs.Words.{◌≡◌, ◌⊎◌, ◌||◌, ℕ, Bool, List, [], ◌∷◌, true, false, refl, sym, ◌∙◌, ap, subst, inl, inr, ⊎_elim}
use Rattle.arj_law_disk_view.proofs.Terms
use Terms.{World, Allowed, Follows, after, run, AreOnlyOf, Confirms, IsPresent, Note, is_only_of, Office, Confirming, Gone, Preparing}
use Terms.{State, is_gone, undecided, put, falls_to, never, or_left, put_cases, Along, GoesOnward, IsPassedNow}
use Terms.machine

-- ---- of the machine

-- who was confirmed as one that changes nothing is so still, who is at its end stays there, and a commit begins only while its root isn't
pub record IsOnward (W V : World) : Type 0 where
  pub root : V.disk.root ≡ W.disk.root
  pub light : (t : ℕ) → W.disk.light t ≡ true → V.disk.light t ≡ true
  pub gone : (t : ℕ) → is_gone (W.disk.stage t) ≡ true → is_gone (V.disk.stage t) ≡ true
  pub begins : (t : ℕ) → V.disk.begun t ≡ true → (W.disk.begun t ≡ true) ⊎ (is_gone (W.disk.stage (W.disk.root t)) ≡ false)

pub onward_same : (W : World) → IsOnward W W
onward_same W = record { root = refl; light = λ t on. on; gone = λ t on. on; begins = λ t on. inl on }

pub onward_on : (U W V : World) → IsOnward U W → IsOnward W V → IsOnward U V
onward_on U W V a b = record {
  root = b.root ∙ a.root;
  light = λ t on. b.light t (a.light t on);
  gone = λ t on. b.gone t (a.gone t on);
  begins = λ t on. ⊎_elim (λ old. a.begins t old) (λ open_root. inr (falls_to (is_gone (U.disk.stage (U.disk.root t)))
      (λ gone. never (a.gone (W.disk.root t) (ap (λ f. is_gone (U.disk.stage (f t))) a.root ∙ gone)) open_root))) (b.begins t on);
}

-- an effect that leaves stages, beginnings and confirmations
still : (W : World) (e : machine.Effect) → (after W e).disk.root ≡ W.disk.root → (after W e).disk.light ≡ W.disk.light →
    (after W e).disk.stage ≡ W.disk.stage → (after W e).disk.begun ≡ W.disk.begun → IsOnward W (after W e)
still W e root light stage begun = record {
  root = root;
  light = λ t on. ap (λ f. f t) light ∙ on;
  gone = λ t on. ap (λ f. is_gone (f t)) stage ∙ on;
  begins = λ t on. inl (sym (ap (λ f. f t) begun) ∙ on);
}

-- one that ends an action
ends : (W : World) (e : machine.Effect) (z : ℕ) → (after W e).disk.root ≡ W.disk.root → (after W e).disk.light ≡ W.disk.light →
    (after W e).disk.stage ≡ put z Gone W.disk.stage → (after W e).disk.begun ≡ W.disk.begun → IsOnward W (after W e)
ends W e z root light stage begun = record {
  root = root;
  light = λ t on. ap (λ f. f t) light ∙ on;
  gone = λ t on. ap (λ f. is_gone (f t)) stage ∙ put_cases (λ s. is_gone s ≡ true) z Gone W.disk.stage t (λ same. refl) (λ other. on);
  begins = λ t on. inl (sym (ap (λ f. f t) begun) ∙ on);
}

pub effect_onward : (W : World) (e : machine.Effect) → Allowed W e → IsOnward W (after W e)
effect_onward W (machine.Begin t p) can = record {
  root = refl;
  light = λ z on. on;
  gone = λ z on. put_cases (λ s. is_gone s ≡ true) t Preparing W.disk.stage z
      (λ same. absurd (never on (ap is_gone (ap W.disk.stage same ∙ can.idle)))) (λ other. on);
  begins = λ z. put_cases (λ b. b ≡ true → (W.disk.begun z ≡ true) ⊎ (is_gone (W.disk.stage (W.disk.root z)) ≡ false)) t true W.disk.begun z
      (λ same on. inr (ap (λ y. is_gone (W.disk.stage (W.disk.root y))) same ∙ can.root)) (λ other on. inl on);
}
effect_onward W (machine.Take t s) can = still W (machine.Take t s) refl refl refl refl
effect_onward W (machine.Seal t) can = record {
  root = refl;
  light = λ z on. on;
  gone = λ z on. put_cases (λ s. is_gone s ≡ true) t Confirming W.disk.stage z
      (λ same. absurd (never on (ap is_gone (ap W.disk.stage same ∙ can)))) (λ other. on);
  begins = λ z on. inl on;
}
effect_onward W (machine.Intend t nodes) can = still W (machine.Intend t nodes) refl refl refl refl
effect_onward W (machine.Decide t) can = ends W (machine.Decide t) t refl refl refl refl
effect_onward W (machine.Remove t nodes) can = still W (machine.Remove t nodes) refl refl refl refl
effect_onward W (machine.EndBare t) can = ends W (machine.EndBare t) t refl refl refl refl
effect_onward W (machine.Halt t) can = ends W (machine.Halt t) t refl refl refl refl
effect_onward W (machine.Keep t s) can = still W (machine.Keep t s) refl refl refl refl
effect_onward W (machine.Move s h) can = still W (machine.Move s h) refl refl refl refl
effect_onward W (machine.Finish s h) can = still W (machine.Finish s h) refl refl refl refl
effect_onward W (machine.Drop s h) can = still W (machine.Drop s h) refl refl refl refl
effect_onward W (machine.Agree t) can = still W (machine.Agree t) refl refl refl refl
effect_onward W (machine.Pass t) can = record {
  root = refl;
  light = λ z on. put_cases (λ b. b ≡ true) t (W.disk.light t || undecided W.disk t) W.disk.light z
      (λ same. or_left (W.disk.light t) (undecided W.disk t) (ap W.disk.light (sym same) ∙ on)) (λ other. on);
  gone = λ z on. on;
  begins = λ z on. inl on;
}
effect_onward W (machine.Enter t) can = still W (machine.Enter t) refl refl refl refl
effect_onward W (machine.MoveEntry h) can = still W (machine.MoveEntry h) refl refl refl refl
effect_onward W (machine.FinishEntry h) can = still W (machine.FinishEntry h) refl refl refl refl
effect_onward W (machine.DropEntry h) can = still W (machine.DropEntry h) refl refl refl refl
effect_onward W (machine.Forget r h) can = still W (machine.Forget r h) refl refl refl refl
effect_onward W (machine.Send m) can = still W (machine.Send m) refl refl refl refl

pub effects_onward : (W : World) (es : List machine.Effect) → Follows W es → IsOnward W (run W es)
effects_onward W [] follows = onward_same W
effects_onward W (e ∷ es) follows =
    onward_on W (after W e) (run (after W e) es) (effect_onward W e follows.0) (effects_onward (after W e) es follows.1)

-- ---- who may not be confirmed isn't

module _ (f : Note → Bool) (z : ℕ) (none : f (Confirms z) ≡ false) where
  unconfirmed : (S : State) (a : machine.Effect) → is_only_of f a ≡ true → (machine.changed S a).conf z ≡ true → S.conf z ≡ true
  unconfirmed S (machine.Begin t p) is on = on
  unconfirmed S (machine.Take t s) is on = on
  unconfirmed S (machine.Seal t) is on = on
  unconfirmed S (machine.Intend t nodes) is on = on
  unconfirmed S (machine.Decide t) is on = on
  unconfirmed S (machine.Remove t nodes) is on = on
  unconfirmed S (machine.EndBare t) is on = on
  unconfirmed S (machine.Halt t) is on = on
  unconfirmed S (machine.Keep t s) is on = on
  unconfirmed S (machine.Move s h) is on = on
  unconfirmed S (machine.Finish s h) is on = on
  unconfirmed S (machine.Drop s h) is on = on
  unconfirmed S (machine.Agree t) is on = put_cases (λ b. b ≡ true → S.conf z ≡ true) t (S.conf t || undecided S t) S.conf z
      (λ same b. absurd (never (ap (λ k. f (Confirms k)) same ∙ is) none)) (λ other b. b) on
  unconfirmed S (machine.Pass t) is on = on
  unconfirmed S (machine.Enter t) is on = put_cases (λ b. b ≡ true → S.conf z ≡ true) t (S.conf t || undecided S t) S.conf z
      (λ same b. absurd (never (ap (λ k. f (Confirms k)) same ∙ is) none)) (λ other b. b) on
  unconfirmed S (machine.MoveEntry h) is on = on
  unconfirmed S (machine.FinishEntry h) is on = on
  unconfirmed S (machine.DropEntry h) is on = on
  unconfirmed S (machine.Forget r h) is on = on
  unconfirmed S (machine.Send m) is on = on

  all_unconfirmed : (W : World) (es : List machine.Effect) → AreOnlyOf f es → (run W es).disk.conf z ≡ true → W.disk.conf z ≡ true
  all_unconfirmed W [] only on = on
  all_unconfirmed W (a ∷ es) only on = unconfirmed W.disk a only.0 (all_unconfirmed (after W a) es only.1 on)

  pub none_confirmed : (W V : World) → Along (record { from = W; noted = f }) V → V.disk.conf z ≡ true → W.disk.conf z ≡ true
  none_confirmed W V a on = all_unconfirmed W a.effects a.only (ap (λ (U : World). U.disk.conf z) a.here ∙ on)

-- nor is one that may not be confirmed as one that changes nothing
module _ (f : Note → Bool) (z : ℕ) (none : f (Confirms z) ≡ false) where
  unlit : (S : State) (a : machine.Effect) → is_only_of f a ≡ true → (machine.changed S a).light z ≡ true → S.light z ≡ true
  unlit S (machine.Begin t p) is on = on
  unlit S (machine.Take t s) is on = on
  unlit S (machine.Seal t) is on = on
  unlit S (machine.Intend t nodes) is on = on
  unlit S (machine.Decide t) is on = on
  unlit S (machine.Remove t nodes) is on = on
  unlit S (machine.EndBare t) is on = on
  unlit S (machine.Halt t) is on = on
  unlit S (machine.Keep t s) is on = on
  unlit S (machine.Move s h) is on = on
  unlit S (machine.Finish s h) is on = on
  unlit S (machine.Drop s h) is on = on
  unlit S (machine.Agree t) is on = on
  unlit S (machine.Pass t) is on = put_cases (λ b. b ≡ true → S.light z ≡ true) t (S.light t || undecided S t) S.light z
      (λ same b. absurd (never (ap (λ k. f (Confirms k)) same ∙ is) none)) (λ other b. b) on
  unlit S (machine.Enter t) is on = on
  unlit S (machine.MoveEntry h) is on = on
  unlit S (machine.FinishEntry h) is on = on
  unlit S (machine.DropEntry h) is on = on
  unlit S (machine.Forget r h) is on = on
  unlit S (machine.Send m) is on = on

  all_unlit : (W : World) (es : List machine.Effect) → AreOnlyOf f es → (run W es).disk.light z ≡ true → W.disk.light z ≡ true
  all_unlit W [] only on = on
  all_unlit W (a ∷ es) only on = unlit W.disk a only.0 (all_unlit (after W a) es only.1 on)

  pub none_passed : (W V : World) → Along (record { from = W; noted = f }) V → V.disk.light z ≡ true → W.disk.light z ≡ true
  none_passed W V a on = all_unlit W a.effects a.only (ap (λ (U : World). U.disk.light z) a.here ∙ on)

-- a walk goes onward
pub along_onward : (f : Note → Bool) (W V : World) → Along (record { from = W; noted = f }) V → IsOnward W V
along_onward f W V a = subst (IsOnward W) a.here (effects_onward W a.effects a.allowed)

-- ---- of offices

-- where nobody may be confirmed
pub goes_onward : (f : Note → Bool) → ((z : ℕ) → f (Confirms z) ≡ false) → (A B : Office) →
    Along (record { from = A.world; noted = f }) B.world → GoesOnward A B
goes_onward f none A B a =
    let o = along_onward f A.world B.world a in
    record {
      conf = λ z on. inl (none_confirmed f z (none z) A.world B.world a on);
      passed = λ z on. inl (none_passed f z (none z) A.world B.world a on);
      light = o.light;
      gone = o.gone;
      begins = o.begins;
    }

-- where the machine came to this world, and nobody was confirmed
pub onward_still : (A C : Office) (W : World) → IsOnward A.world W → ((z : ℕ) → W.disk.conf z ≡ true → A.world.disk.conf z ≡ true) →
    ((z : ℕ) → W.disk.light z ≡ true → A.world.disk.light z ≡ true) → C.world ≡ W → GoesOnward A C
onward_still A C W o conf light is = record {
  conf = λ z on. inl (conf z (ap (λ (V : World). V.disk.conf z) (sym is) ∙ on));
  passed = λ z on. inl (light z (ap (λ (V : World). V.disk.light z) (sym is) ∙ on));
  light = λ z on. ap (λ (V : World). V.disk.light z) is ∙ o.light z on;
  gone = λ z on. ap (λ (V : World). is_gone (V.disk.stage z)) is ∙ o.gone z on;
  begins = λ z on. o.begins z (ap (λ (V : World). V.disk.begun z) (sym is) ∙ on);
}

-- where naming confirmed a top first, whose grants are present
pub onward_by : (A C : Office) (f : machine.Effect) → Allowed A.world f →
    ((z : ℕ) → (after A.world f).disk.conf z ≡ true → (A.world.disk.conf z ≡ true) ⊎ IsPresent A.world.disk A.names z)
    → ((z : ℕ) → (after A.world f).disk.light z ≡ true → (A.world.disk.light z ≡ true) ⊎ IsPassedNow A.world.disk A.world.disk A.names z)
    → Along (record { from = after A.world f; noted = λ n. false }) C.world
    → C.names.had ≡ A.names.had → C.names.inc ≡ A.names.inc → GoesOnward A C
onward_by A C f allowed confirms passes a had inc = record {
  conf = λ z on. ⊎_elim (λ old. inl old) (λ present. inr (stays z present))
      (confirms z (none_confirmed (λ n. false) z refl (after A.world f) C.world a on));
  passed = λ z on. ⊎_elim (λ old. inl old) (λ (p : IsPassedNow A.world.disk A.world.disk A.names z). inr (record {
    begun = p.begun;
    sealed = p.sealed;
    opened = p.opened;
    unconfirmed = p.unconfirmed;
    present = λ part. stays z (p.present part);
  })) (passes z (none_passed (λ n. false) z refl (after A.world f) C.world a on));
  light = o.light;
  gone = o.gone;
  begins = o.begins;
}
  where
    o : IsOnward A.world C.world
    o = onward_on A.world (after A.world f) C.world (effect_onward A.world f allowed)
        (along_onward (λ n. false) (after A.world f) C.world a)

    root : C.world.disk.root ≡ A.world.disk.root
    root = o.root

    stays : (z : ℕ) → IsPresent A.world.disk A.names z → IsPresent C.world.disk C.names z
    stays z present i h = present i (⊎_elim (λ own. inl (ap (λ g. g z i) (sym had) ∙ own))
        (λ kept. inr (ap (λ r. A.names.had (r z) i) (sym root) ∙ ap (λ g. g (C.world.disk.root z) i) (sym had) ∙ kept)) h) ∙ sym inc
