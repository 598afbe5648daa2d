-- No action that began in a run has a Uid from before it.
use Rattle.arj_law_parts.proofs.Words
use Words.{◌≡◌, ◌⊎◌, ◌≤◌, ◌<◌, ◌+◌, if◌then◌else◌, ℕ, [], ◌∷◌, length, name, option_map, Some, refl, sym, ap, subst, inl, inr, arith, In}
use Words.{Header, Uid, Seen, again_all, next_uid, numbered, parts_in}
use Words.{acts as does, restart_outs, tick_outs, with_coord}
use Words.body
use Rattle.arj_law_lock_view.proofs.Terms.{same_number}
use Rattle.arj_law_parts.proofs.moves.Happens.{keeps_asked}
use Rattle.arj_law_parts.specs.moves.Seen.{at, down, up}
use Rattle.arj_law_promise.proofs.Terms.{AreSince}
use Rattle.arj_law_promise.proofs.waiting.Since.{since_given}
use Rattle.arj_law_runs.proofs.follow.Halts.{KnowsAll, halts_keep}
use Rattle.arj_law_runs.proofs.journal.Owners.{acts_more}
use Rattle.arj_law_serial.proofs.Terms.{IsGood, all_keep, kept_both}
use Rattle.arj_model.specs.Actions.{Act, acts}
use Rattle.arj_promise.specs.Starts.{IsPast, next_inc}
use Rattle.arj_law_cause.proofs.confirm.Labels.{Since, first_since, same_acts, since_more, since_way, written}
use Rattle.arj_law_cause.proofs.confirm.Reached.{AtFirst, ByAct, ByBegin, ByLines, ByMessage, ByRestart, ByStop, ByTick, Reached}
use Rattle.arj_law_cause.proofs.confirm.Reached.{reached_has}
use Rattle.arj_law_cause.proofs.waits.waiting.Acting as acting

-- no action of the lines has a Uid from before the run
abbrev pub AreNew : Seen → Type 0
AreNew M = (a : Act) → In a (acts M.lines) → IsPast M.start a.uid → ⊥

-- the next Uid that a node gives is none
next_new : (node inc count k i : ℕ) (M : Seen) → node ≡ k → inc ≡ i → next_inc M.start k ≤ i →
    IsPast M.start (record { node = node; inc = inc; num = count + 1 }) → ⊥
next_new node inc count k i M here now since (inl none) = let zero : count + 1 ≡ 0 = ap (λ (u : Uid). u.num) none in omega (arith, zero)
next_new node inc count k i M here now since (inr less) =
    low inc i (next_inc M.start k) now since (subst (λ n. inc < next_inc M.start n) here less)
  where
    low : (a b c : ℕ) → a ≡ b → c ≤ b → a < c → ⊥
    low a b c same le below = omega (arith, same, le, below)

module _ (hd : Header) where
  pub since_all : (S : Seen) → Reached hd S → AreSince S
  since_all S r = (reached_has hd (λ M. IsGood M × AreSince M) (keeps_asked hd (λ M. IsGood M × AreSince M)
      (kept_both hd IsGood AreSince (all_keep hd) (since_given hd))) S r).1

  known : (S : Seen) → Reached hd S → KnowsAll S
  known S r = reached_has hd KnowsAll (keeps_asked hd KnowsAll (halts_keep hd)) S r

  stays : (M N : Seen) → Reached hd M → Reached hd N → Since M N → AreNew M → AreNew N
  stays M N r q s new a i past = new a (subst (In a) (same_acts M N (written hd M r) (written hd N q) s) i)
      (subst (λ st. IsPast st a.uid) s.start past)

  pub acts_new : (S : Seen) → Reached hd S → AreNew S
  acts_new S (AtFirst st formed) = λ a i past. absurd i
  acts_new S (ByLines e bs L quiet r) = stays L S r (ByLines e bs L quiet r)
      (since_more L L (numbered e bs) S refl refl refl (first_since L L refl refl refl)) (acts_new L r)
  acts_new S (ByStop e k d live L r) = stays (at k d live L) S r (ByStop e k d live L r)
      (since_more (at k d live L) L (numbered e (body.Halted k ∷ [])) S refl refl refl (first_since (at k d live L) L refl refl refl))
      (acts_new (at k d live L) r)
  acts_new S (ByMessage e k d t v from m outs L N r there meant is way) =
      stays (up k d t L) S r (ByMessage e k d t v from m outs L N r there meant is way)
      (since_way (up k d t L) e k outs v d L S (first_since (up k d t L) L refl refl refl) way) (acts_new (up k d t L) r)
  acts_new S (ByAct e k d t i L N r is asks free way) =
      let did = does i d.intents t.coord in
      stays (up k d t L) S r (ByAct e k d t i L N r is asks free way)
      (since_way (up k d t L) e k did.outs (with_coord t did.part) d L S (first_since (up k d t L) L refl refl refl) way) (acts_new
      (up k d t L) r)
  acts_new S (ByBegin e k d t l how parent L N r new may none way) = subst AreNew way (λ a i past. by a (subst (In a)
      (acts_more [] L.lines (numbered e (body.Began l how (next_uid (let c = t.coord in c.tree)) parent ∷ []))) i) past
      (acts_new (up k d t L) r))
    where
      here : (let M = up k d t L in M.nodes k) ≡ Some (record { number = k; disk = d; live = Some t })
      here = λ i. if same_number k i then Some (record { number = k; disk = d; live = Some t }) else L.nodes k

      its_node : t.coord.tree.node ≡ k
      its_node = acting.node_is (up k d t L) (known (up k d t L) r) k (record { number = k; disk = d; live = Some t }) t here refl

      its_inc : t.coord.tree.inc ≡ d.inc
      its_inc = acting.inc_is (up k d t L) (known (up k d t L) r) k (record { number = k; disk = d; live = Some t }) t here refl

      begun : Act
      begun = record {
        id = length (acts L.lines);
        label = name l;
        kind = how;
        uid = next_uid (let c = t.coord in c.tree);
        parent = option_map name parent;
      }

      by : (a : Act) → (begun ≡ a) ⊎ In a (acts L.lines) → IsPast L.start a.uid → AreNew (up k d t L) → ⊥
      by a (inl same) past old = next_new t.coord.tree.node t.coord.tree.inc (length t.coord.tree.branches) k d.inc L its_node its_inc
          (since_all (up k d t L) r k (record { number = k; disk = d; live = Some t }) here)
          (subst (IsPast L.start) (sym (ap (λ (z : Act). z.uid) same)) past)
      by a (inr i) past old = old a i past
  acts_new S (ByTick e k d t L N r way) =
      stays (up k d t L) S r (ByTick e k d t L N r way)
      (since_way (up k d t L) e k (tick_outs (record { number = k; disk = d; live = Some t }) t)
      (with_coord t (let z = again_all t.coord.doings t.coord in z.part)) d L S
      (first_since (up k d t L) L refl refl refl) way) (acts_new (up k d t L) r)
  acts_new S (ByRestart e k d L N r way) =
      stays (down k d L) S r (ByRestart e k d L N r way)
      (since_way (down k d L) e k (restart_outs hd k (d.inc + 1) d) (parts_in k (d.inc + 1) d) d L S
      (first_since (down k d L) L refl refl refl) way) (acts_new (down k d L) r)
