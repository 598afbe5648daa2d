-- The newest surviving write, by the lock machine: a committed top's newest write is it, where no other surviving write stands behind that
-- top's line.
use Rattle.arj_law_parts.proofs.Words.{◌≡◌, ◌≢◌, ◌<◌, ◌≤◌, ◌⊎◌, ℕ, List, [], ◌∷◌, true, false, inl, inr, refl, sym, ◌∙◌, ap, subst, arith}
use Rattle.arj_law_serial.proofs.Terms
use Terms.{is_action, on, same, top, Alive, Call, State, Newest, Survives, newest, none, older, Holds, lives, above_top, by_cases, differ}
use Terms.{same_is, same_self, RootsLow, Seen}
use Rattle.arj_law_lock.proofs.machine.ValueClaims.{Values}
use Rattle.arj_law_lock.specs.machine.{Actions.Act, Actions.In, Actions.is_top, State.Merged}

-- where no write of these survives the first value is the last one
pub none_last : (s : State) (x : ℕ) (cs : List Call) → s.initial ≡ x → ((c : Call) → In c cs → c.write ≡ true → Survives s c.act → ⊥) →
    Newest s.initial (Survives s) x cs
none_last s x [] first nobody = none first
none_last s x (c ∷ cs) first nobody = older c (λ w alive. nobody c (inl refl) w alive) (none_last s x cs first (λ d i. nobody d (inr i)))

module _ {s : State} (h : Holds s) (v : Values s) (low : RootsLow s) (m : Act) (is : is_top m ≡ true) (three : (s.action m).stage ≡ 3) where
  abbrev Theirs : Act → Type 0
  Theirs a = (top a ≡ m) × Alive s a

  -- what wasn't undone of a committed top survives
  pub theirs_survive : (c : Call) → In c s.calls → Theirs c.act → Survives s c.act
  theirs_survive c i (own, alive) u p act = by (by_cases (on m u))
    where
      merged : Merged s c.act m
      merged = subst (λ (y : Act). Merged s c.act y) own
          (v.whole c i alive (subst (λ (y : Act). 1 ≤ (s.action y).stage) (sym own) (let k = three in omega (arith, k))))

      by : (on m u ≡ true) ⊎ (on m u ≡ false) → (s.action u).stage ≡ 3
      by (inl q) =
          elim (above_top m u is q) [ inl e ↦ ap (λ (y : Act). (s.action y).stage) e ∙ three | inr e ↦ differ act (ap is_action e) ]
      by (inr f) = merged u p f

  module _ (last : (d : Call) → In d s.calls → d.write ≡ true → Survives s d.act → top d.act ≢ m → (c : Call) → In c s.calls →
      c.write ≡ true → Theirs c.act → c.line < d.line → ⊥) where
    newest_there : (x : ℕ) (cs : List Call) → Seen s cs → ((c : Call) → In c cs → In c s.calls) → Newest s.initial Theirs x cs →
        (c : Call) → In c cs → c.write ≡ true → Theirs c.act → Newest s.initial (Survives s) x cs
    newest_there x [] seen within n c i write its = absurd i
    newest_there x (d ∷ cs) seen within (newest _ w own gives) c i write its = newest d w (theirs_survive d (within d (inl refl)) own) gives
    newest_there x (d ∷ cs) seen within (older _ never n) c i write its =
        by i (λ j. newest_there x cs seen.2 (λ b k. within b (inr k)) n c j write its)
      where
        -- a newer write that survives is the top's own, or stands behind it
        unseen : In c cs → d.write ≡ true → Survives s d.act → ⊥
        unseen j w alive = elim (by_cases (same (top d.act) m)) [
          | inl own ↦ never w (same_is (top d.act) m own, lives s low d.act alive)
          | inr other ↦ last d (within d (inl refl)) w alive (λ e. differ
              (subst (λ (y : Act). same (top d.act) y ≡ true) e (same_self (top d.act))) other) c (within c (inr j)) write its (seen.0 c j)
        ]

        by : In c (d ∷ cs) → (In c cs → Newest s.initial (Survives s) x cs) → Newest s.initial (Survives s) x (d ∷ cs)
        by (inl e) ih = absurd (never (subst (λ (y : Call). y.write ≡ true) e write) (subst (λ (y : Call). Theirs y.act) e its))
        by (inr j) ih = older d (unseen j) (ih j)

    -- so it is of all calls
    pub newest_is_last : (x : ℕ) → Newest s.initial Theirs x s.calls → (c : Call) → In c s.calls → c.write ≡ true → Theirs c.act →
        Newest s.initial (Survives s) x s.calls
    newest_is_last x n c i write its = newest_there x s.calls v.seen (λ b k. k) n c i write its
