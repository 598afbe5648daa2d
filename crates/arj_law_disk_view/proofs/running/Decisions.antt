-- A top that the machine decides on a walk has its record at the end, where naming acknowledges none of its ends meanwhile.
use Rattle.arj_law_parts.proofs.Words
use Words.{◌≡◌, ◌⊎◌, ℕ, ◌==◌, not, List, [], ◌∷◌, Bool, true, false, Some, None, is_some, refl, sym, subst, inl, inr, ⊎_elim}
use Rattle.arj_law_disk_view.proofs.Terms
use Terms.{World, Effect, Whole, Follows, Allowed, run, after, AreOnlyOf, Note, Begins, Decides, Confirms, Acks, is_only_of, only_decides}
use Terms.{tells_only_of, decided, naming, In, bool_cases, never, or_cases, put_cases, test_is, effect_keeps, Along, IsLater}
use Terms.machine as Effects
use Rattle.arj_law_disk.specs.machine.Messages.{Message, Acked}
use Rattle.arj_law_disk_view.proofs.view.{Along.all_more, Later.effects_are_later}

-- decisions, or acknowledgements
abbrev pub may_decide : Bool → Note → Bool
may_decide b (Begins z) = true
may_decide b (Decides z) = b
may_decide b (Confirms z) = true
may_decide b (Acks z) = not b

-- naming hasn't acknowledged the top's commit, and once it is decided its record is there
record IsHeld (W : World) (t : ℕ) : Type 0 where
  unacked : In (Acked t naming) W.sent → ⊥
  there : decided W.disk t ≡ true → is_some (W.disk.intent t) ≡ true

module _ (f : Note → Bool) (t : ℕ) where
  effect_holds : f (Acks t) ≡ false → (W : World) (e : Effect) → is_only_of f e ≡ true → Allowed W e → Whole W → IsHeld W t →
      IsHeld (after W e) t
  effect_holds quiet W (Effects.Decide z) only can whole h = record {
    unacked = h.unacked;
    there = λ d. ⊎_elim (λ (same : (z == t) ≡ true). subst (λ k. is_some (W.disk.intent k) ≡ true) (test_is z t same) can.0)
        (λ (old : decided W.disk t ≡ true). h.there old) (or_cases (z == t) (decided W.disk t) d);
  }
  effect_holds quiet W (Effects.Intend z nodes) only can whole h = record {
    unacked = h.unacked;
    there = λ d. put_cases (λ o. is_some o ≡ true) z (Some nodes) W.disk.intent t (λ same. refl) (λ other. h.there d);
  }
  effect_holds quiet W (Effects.Remove z nodes) only can whole h = record {
    unacked = h.unacked;
    there = λ d. put_cases (λ o. is_some o ≡ true) z None W.disk.intent t (λ (same : t ≡ z). absurd (h.unacked (subst (λ k. In (Acked k
        naming) W.sent) (sym same) (can.acked naming (whole.core.coordinators.record_names z nodes can.record_is))))) (λ other. h.there d);
  }
  effect_holds quiet W (Effects.Send m) only can whole h = record {
    unacked =
        λ i. ⊎_elim (λ (same : m ≡ Acked t naming). never (subst (λ (k : Message). tells_only_of f k ≡ true) same only) quiet) h.unacked i;
    there = h.there;
  }
  effect_holds quiet W (Effects.Begin z p) only can whole h = record { unacked = h.unacked; there = h.there }
  effect_holds quiet W (Effects.Take z s) only can whole h = record { unacked = h.unacked; there = h.there }
  effect_holds quiet W (Effects.Seal z) only can whole h = record { unacked = h.unacked; there = h.there }
  effect_holds quiet W (Effects.EndBare z) only can whole h = record { unacked = h.unacked; there = h.there }
  effect_holds quiet W (Effects.Halt z) only can whole h = record { unacked = h.unacked; there = h.there }
  effect_holds quiet W (Effects.Keep z s) only can whole h = record { unacked = h.unacked; there = h.there }
  effect_holds quiet W (Effects.Move s o) only can whole h = record { unacked = h.unacked; there = h.there }
  effect_holds quiet W (Effects.Finish s o) only can whole h = record { unacked = h.unacked; there = h.there }
  effect_holds quiet W (Effects.Drop s o) only can whole h = record { unacked = h.unacked; there = h.there }
  effect_holds quiet W (Effects.Agree z) only can whole h = record { unacked = h.unacked; there = h.there }
  effect_holds quiet W (Effects.Pass z) only can whole h = record { unacked = h.unacked; there = h.there }
  effect_holds quiet W (Effects.Enter z) only can whole h = record { unacked = h.unacked; there = h.there }
  effect_holds quiet W (Effects.MoveEntry o) only can whole h = record { unacked = h.unacked; there = h.there }
  effect_holds quiet W (Effects.FinishEntry o) only can whole h = record { unacked = h.unacked; there = h.there }
  effect_holds quiet W (Effects.DropEntry o) only can whole h = record { unacked = h.unacked; there = h.there }
  effect_holds quiet W (Effects.Forget r o) only can whole h = record { unacked = h.unacked; there = h.there }

  all_hold : f (Acks t) ≡ false → (W : World) (es : List Effect) → AreOnlyOf f es → Follows W es → Whole W → IsHeld W t →
      IsHeld (run W es) t
  all_hold quiet W [] only can whole h = h
  all_hold quiet W (e ∷ es) only can whole h =
      all_hold quiet (after W e) es only.1 can.1 (effect_keeps W e can.0 whole) (effect_holds quiet W e only.0 can.0 whole h)

  -- where no decision may be noted the top is as it was
  effect_leaves : f (Decides t) ≡ false → (W : World) (e : Effect) → is_only_of f e ≡ true → decided (after W e).disk t ≡ true →
      decided W.disk t ≡ true
  effect_leaves none W (Effects.Decide z) only d = ⊎_elim (λ (same : (z == t) ≡ true). absurd (never (subst (λ k. f (Decides k) ≡ true)
      (test_is z t same) only) none)) (λ (old : decided W.disk t ≡ true). old) (or_cases (z == t) (decided W.disk t) d)
  effect_leaves none W (Effects.Intend z nodes) only d = d
  effect_leaves none W (Effects.Remove z nodes) only d = d
  effect_leaves none W (Effects.Send m) only d = d
  effect_leaves none W (Effects.Begin z p) only d = d
  effect_leaves none W (Effects.Take z s) only d = d
  effect_leaves none W (Effects.Seal z) only d = d
  effect_leaves none W (Effects.EndBare z) only d = d
  effect_leaves none W (Effects.Halt z) only d = d
  effect_leaves none W (Effects.Keep z s) only d = d
  effect_leaves none W (Effects.Move s o) only d = d
  effect_leaves none W (Effects.Finish s o) only d = d
  effect_leaves none W (Effects.Drop s o) only d = d
  effect_leaves none W (Effects.Agree z) only d = d
  effect_leaves none W (Effects.Pass z) only d = d
  effect_leaves none W (Effects.Enter z) only d = d
  effect_leaves none W (Effects.MoveEntry o) only d = d
  effect_leaves none W (Effects.FinishEntry o) only d = d
  effect_leaves none W (Effects.DropEntry o) only d = d
  effect_leaves none W (Effects.Forget r o) only d = d

  all_leave : f (Decides t) ≡ false → (W : World) (es : List Effect) → AreOnlyOf f es → decided (run W es).disk t ≡ true →
      decided W.disk t ≡ true
  all_leave none W [] only d = d
  all_leave none W (e ∷ es) only d = effect_leaves none W e only.0 (all_leave none (after W e) es only.1 d)

-- who is decided on such a walk has its record at the end
pub new_has_record : (b : Bool) (t : ℕ) (W : World) (es : List Effect) → AreOnlyOf (may_decide b) es → Follows W es → Whole W →
    decided W.disk t ≡ false → decided (run W es).disk t ≡ true → is_some ((run W es).disk.intent t) ≡ true
new_has_record true t W es only can whole undone d =
    let h = all_hold (may_decide true) t refl W es only can whole
    (record { unacked = λ i. never (whole.mail (Acked t naming) i).0 undone; there = λ done. absurd (never done undone) }) in
    h.there d
new_has_record false t W es only can whole undone d = absurd (never (all_leave (may_decide false) t refl W es only d) undone)

-- ---- what may be noted

decides_more : (g : ℕ → Bool) (n : Note) → only_decides g n ≡ true → may_decide true n ≡ true
decides_more g (Begins z) is = refl
decides_more g (Decides z) is = refl
decides_more g (Confirms z) is = refl
decides_more g (Acks z) is = absurd (never is refl)

-- whoever is decided was so, or has its record
abbrev pub Turns : Effects.World → Effects.World → Type 0
Turns W V = (u : ℕ) → decided V.disk u ≡ true → (decided W.disk u ≡ true) ⊎ (is_some (V.disk.intent u) ≡ true)

abbrev pub Goes : Effects.World → Effects.World → Type 0
Goes W V = Turns W V × IsLater W V

pub goes_along : (g : ℕ → Bool) (W V : Effects.World) → Effects.Whole W → Along (record { from = W; noted = only_decides g }) V → Goes W V
goes_along g W V whole a = (
  λ u d. ⊎_elim (λ old. inl old)
      (λ new. inr (subst (λ (Z : Effects.World). is_some (Z.disk.intent u) ≡ true) a.here
      (new_has_record true u W a.effects (all_more (only_decides g) (may_decide true) (decides_more g) a.effects a.only) a.allowed whole
      new (subst (λ (Z : Effects.World). decided Z.disk u ≡ true) (sym a.here) d))))
      (bool_cases (decided W.disk u)),
  subst (IsLater W) a.here (effects_are_later W a.effects a.allowed whole),
)
