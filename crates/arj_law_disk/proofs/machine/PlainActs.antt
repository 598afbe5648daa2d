-- Effects in which the naming node's half has no part.
use Rattle.arj_law_disk.proofs.Terms
use Terms.{◌≡◌, ◌==◌, ◌||◌, not, [], ◌∷◌, true, false, refl, ◌∙◌, ap, subst, sym, Effect, Allowed, after, run, IsToldFirst, MayDo, Runs}
use Terms.{end_of, Names, Office, Do, naming}
use Terms.Effects
use Rattle.arj_law_disk.proofs.machine.Base.{never, test_same}
use Rattle.arj_law_disk.specs.machine.{Guards.is_only_of, Guards.tells_only_of, Names.noted, NamingLaws.PlainEffectsAreActs}
use Rattle.std.proofs.Common.{map}
use Rattle.arj_law_disk.specs.machine.Messages as mail

-- nobody acknowledges at naming
told_first : (N : Names) (m : mail.Message) → tells_only_of (λ n. false) m ≡ true → IsToldFirst N m
told_first N (mail.Acked t m) is =
    λ one. absurd (never (sym (ap (λ n. not (n == naming) || false) one) ∙ is) (ap (λ b. not b || false) (test_same naming)))
told_first N (mail.Prepare t s) is = tt
told_first N (mail.Prepared t s) is = tt
told_first N (mail.Confirm t) is = tt
told_first N (mail.Confirmed t) is = tt
told_first N (mail.ToldCommit t m) is = tt
told_first N (mail.ToldBare t m) is = tt
told_first N (mail.ToldAbort t m) is = tt
told_first N (mail.ToldSerial r m) is = tt

-- one of them may be done, and changes neither that half nor who is decided
pub record IsPlainAct (A : Office) (e : Effect) : Type 0 where
  pub may : MayDo A e
  pub names : noted A.world.disk e A.names ≡ A.names
  pub tops : (after A.world e).disk.tops ≡ A.world.disk.tops

pub plain_act : (A : Office) (e : Effect) → Allowed A.world e → is_only_of (λ n. false) e ≡ true → IsPlainAct A e
plain_act A (Effects.Begin t p) a is = absurd (never is refl)
plain_act A (Effects.Take t s) a is = record { may = a; names = refl; tops = refl }
plain_act A (Effects.Seal t) a is = record { may = a; names = refl; tops = refl }
plain_act A (Effects.Intend t nodes) a is = record { may = a; names = refl; tops = refl }
plain_act A (Effects.Decide t) a is = absurd (never is refl)
plain_act A (Effects.Remove t nodes) a is = record { may = a; names = refl; tops = refl }
plain_act A (Effects.EndBare t) a is = absurd (never is refl)
plain_act A (Effects.Halt t) a is = record { may = a; names = refl; tops = refl }
plain_act A (Effects.Keep t s) a is = record { may = a; names = refl; tops = refl }
plain_act A (Effects.Move s h) a is = record { may = a; names = refl; tops = refl }
plain_act A (Effects.Finish s h) a is = record { may = a; names = refl; tops = refl }
plain_act A (Effects.Drop s h) a is = record { may = a; names = refl; tops = refl }
plain_act A (Effects.Agree t) a is = absurd (never is refl)
plain_act A (Effects.Pass t) a is = absurd (never is refl)
plain_act A (Effects.Enter t) a is = absurd (never is refl)
plain_act A (Effects.MoveEntry h) a is = record { may = a; names = refl; tops = refl }
plain_act A (Effects.FinishEntry h) a is = record { may = a; names = refl; tops = refl }
plain_act A (Effects.DropEntry h) a is = record { may = a; names = refl; tops = refl }
plain_act A (Effects.Forget r h) a is = record { may = a; names = refl; tops = refl }
plain_act A (Effects.Send m) a is = record { may = (a, told_first A.names m is); names = refl; tops = refl }

pub plain_effects_are_acts : PlainEffectsAreActs
plain_effects_are_acts A [] follows plain = (tt, refl, refl)
plain_effects_are_acts A (e ∷ es) follows plain =
    let p = plain_act A e follows.0 plain.0 in
    let B : Office = record { world = after A.world e; names = A.names } in
    let r = plain_effects_are_acts B es follows.1 plain.1 in
    subst (λ N. (MayDo A e × Runs (record { world = after A.world e; names = N }) (map Do es))
    × (end_of (record { world = after A.world e; names = N }) (map Do es) ≡ record { world = run A.world (e ∷ es); names = A.names })
    × ((run A.world (e ∷ es)).disk.tops ≡ A.world.disk.tops))
    (sym p.names) ((p.may, r.0), r.1, r.2 ∙ p.tops)
