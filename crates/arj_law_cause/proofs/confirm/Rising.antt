-- The incarnations that lines say of naming's node rise.
use Rattle.arj_law_parts.proofs.Words
use Words.{⊤, ◌≡◌, ◌≤◌, ◌∙◌, ◌+◌, ◌==◌, ◌&&◌, ◌++◌, ℕ, Bool, true, false, cond, if◌then◌else◌, List, [], ◌∷◌, Some, None, refl, sym, ap}
use Words.{subst, arith, map}
use Words.{eqb-true, and_parts, list_all, Body, Header, Line, Seen, Disk, Do, Effect, Say, Send, stopped, worked, Parts, Handled, Void}
use Words.{handle, with_coord}
use Words.{acts as does, acts_own, again_all, again_own, begin_action, parent_of, parts_in, restart_outs, tick_outs, tolds_again}
use Words.{tolds_again_own}
use Words.{holders, query_about, numbered, all_both}
use Words.body
use Words.input
use Rattle.arj_law_parts.proofs.moves.Happens.{keeps_asked}
use Rattle.arj_law_parts.proofs.steps.Still.{Still, coord_good, map_good, outs_of, says_still, taken_good}
use Rattle.arj_law_parts.specs.moves.Seen.{AreQuiet, is_quiet_line, posted, said}
use Rattle.arj_law_runs.proofs.follow.Halts as halts
use Rattle.arj_law_runs.proofs.follow.Uids.{KnowsNext, next_keep}
use Rattle.arj_law_runs.proofs.kept.Walked.{same_number}
use Rattle.arj_model.specs.Refusals.{inc_from, inc_step, incarnation}
use Rattle.arj_law_cause.proofs.confirm.Reached
use Reached.{AtFirst, ByAct, ByBegin, ByLines, ByMessage, ByRestart, ByStop, ByTick, OnWay, Reached, reached_has}

-- from this incarnation on each is no lower than that before it
abbrev pub RisesFrom : ℕ → List Line → Type 0
RisesFrom i [] = ⊤
RisesFrom i (l ∷ ls) = (i ≤ inc_step 1 l.body i) × RisesFrom (inc_step 1 l.body i) ls

low_from : (i : ℕ) (ls : List Line) → RisesFrom i ls → i ≤ inc_from 1 i ls
low_from i [] rises = omega arith
low_from i (l ∷ ls) rises = far rises.0 (low_from (inc_step 1 l.body i) ls rises.1)
  where
    far : {a b c : ℕ} → a ≤ b → b ≤ c → a ≤ c
    far low high = omega (arith, low, high)

pub rises_behind : (i : ℕ) (ls ms : List Line) → RisesFrom i (ls ++ ms) → inc_from 1 i ls ≤ inc_from 1 i (ls ++ ms)
rises_behind i [] ms rises = low_from i ms rises
rises_behind i (l ∷ ls) ms rises = rises_behind (inc_step 1 l.body i) ls ms rises.1

rises_more : (i : ℕ) (ls ms : List Line) → RisesFrom i ls → RisesFrom (inc_from 1 i ls) ms → RisesFrom i (ls ++ ms)
rises_more i [] ms rises more = more
rises_more i (l ∷ ls) ms rises more = (rises.0, rises_more (inc_step 1 l.body i) ls ms rises.1 more)

-- no line of these says that a node is up
abbrev is_calm : Body → Bool
is_calm (body.Up n i) = false
is_calm b = true

calm_stays : (b : Body) (i : ℕ) → is_calm b ≡ true → i ≤ inc_step 1 b i
calm_stays (body.Up n k) i is = absurd (cc is)
calm_stays b i is = omega arith

calm_rises : (i e : ℕ) (bs : List Body) → list_all is_calm bs ≡ true → RisesFrom i (numbered e bs)
calm_rises i e [] all = tt
calm_rises i e (b ∷ bs) all = let p = and_parts (is_calm b) (list_all is_calm bs) all in
    (calm_stays b i p.0, calm_rises (inc_step 1 b i) e bs p.1)

quiet_calm : (bs : List Body) → AreQuiet bs → list_all is_calm bs ≡ true
quiet_calm [] all = refl
quiet_calm (b ∷ bs) all = let p = and_parts (is_quiet_line b) (list_all is_quiet_line bs) all in λ i. one b p.0 i && quiet_calm bs p.1 i
  where
    one : (b : Body) → is_quiet_line b ≡ true → is_calm b ≡ true
    one (body.Up n i) is = absurd (cc is)
    one b is = refl

still_calm : (b : Body) → says_still (Say b) ≡ true → is_calm b ≡ true
still_calm (body.Up n i) is = absurd (cc is)
still_calm b is = refl

abbrev pub Rises : Seen → Type 0
Rises M = RisesFrom (M.start.incs 1 + 1) M.lines

rises_said : (e : ℕ) (bs : List Body) (M : Seen) → list_all is_calm bs ≡ true → Rises M → Rises (said e bs M)
rises_said e bs M calm rises = rises_more (M.start.incs 1 + 1) M.lines (numbered e bs) rises
    (calm_rises (inc_from 1 (M.start.incs 1 + 1) M.lines) e bs calm)

still_way : (e k : ℕ) (es : List Effect) (v : Parts) (d : Disk) (M N : Seen) → Still es → OnWay e k es v d M N → Rises M → Rises N
still_way e k [] v d M N still way rises = subst Rises way rises
still_way e k (Do w ∷ es) v d M N still (Words.inl stop) rises = subst Rises stop.1 (rises_said e (body.Halted k ∷ []) M refl rises)
still_way e k (Do w ∷ es) v d M N still (Words.inr way) rises =
    still_way e k es v (worked w d) M N (and_parts (says_still (Do w)) (list_all says_still es) still).1 way rises
still_way e k (Say b ∷ es) v d M N still way rises =
    let p = and_parts (says_still (Say b)) (list_all says_still es) still in
    still_way e k es v d (said e (b ∷ []) M) N p.1 way
    (rises_said e (b ∷ []) M (λ i. still_calm b p.0 i && true) rises)
still_way e k (Send to m ∷ es) v d M N still way rises =
    still_way e k es v d (said e way.0 (posted (record { from = k; to = to; message = m }) M)) N
    (and_parts (says_still (Send to m)) (list_all says_still es) still).1 way.2
    (rises_said e way.0 (posted (record { from = k; to = to; message = m }) M) (quiet_calm way.0 way.1) rises)

module _ (hd : Header) where
  next : (M : Seen) → Reached hd M → KnowsNext M
  next M r = reached_has hd KnowsNext (keeps_asked hd KnowsNext (next_keep hd)) M r

  pub rises : (M : Seen) → Reached hd M → Rises M
  rises M (AtFirst st formed) = tt
  rises M (ByLines e bs L quiet r) = rises_said e bs L (quiet_calm bs quiet) (rises L r)
  rises M (ByStop e k d live L r) = rises_said e (body.Halted k ∷ []) L refl (rises (Rattle.arj_law_parts.specs.moves.Seen.at k d live L) r)
  rises M (ByMessage e k d t v from m outs L N r there meant is way) =
      still_way e k outs v d L M (subst (λ (x : Handled). Still (outs_of x)) ((λ i. cond (meant i) (handle k d t from m) (Void [])) ∙ is)
      (taken_good k d t from m)) way (rises (Rattle.arj_law_parts.specs.moves.Seen.up k d t L) r)
  rises M (ByAct e k d t i L N r is asks free way) =
      still_way e k (does i d.intents t.coord).outs (with_coord t (does i d.intents t.coord).part) d L M
      (coord_good (does i d.intents t.coord).outs (acts_own i d.intents t.coord)) way
      (rises (Rattle.arj_law_parts.specs.moves.Seen.up k d t L) r)
  rises M (ByBegin e k d t l how parent L N r new may none way) =
      still_way e k (begin_action l how parent (parent_of parent t.coord) t.coord).outs
      (with_coord t (begin_action l how parent (parent_of parent t.coord) t.coord).part) d
      (Rattle.arj_law_parts.specs.moves.Seen.given l (record { node = k; serial = Words.is_serial how }) L) M
      (coord_good (begin_action l how parent (parent_of parent t.coord) t.coord).outs (acts_own (input.Begin l how parent) d.intents t.coord)) way
      (rises (Rattle.arj_law_parts.specs.moves.Seen.up k d t L) r)
  rises M (ByTick e k d t L N r way) =
      let q = again_all t.coord.doings t.coord in
      still_way e k (tick_outs (record { number = k; disk = d; live = Some t }) t) (with_coord t (let z = again_all t.coord.doings t.coord in z.part))
      d L M (all_both says_still (q.outs ++ tolds_again t.coord.telling) (map query_about (holders d t))
      (all_both says_still q.outs (tolds_again t.coord.telling) (coord_good q.outs (again_own t.coord.doings t.coord))
      (coord_good (tolds_again t.coord.telling) (tolds_again_own t.coord.telling)))
      (map_good query_about (holders d t) (λ u. refl))) way (rises (Rattle.arj_law_parts.specs.moves.Seen.up k d t L) r)
  rises M (ByRestart e k d L N r way) = by (rises (Rattle.arj_law_parts.specs.moves.Seen.down k d L) r) way
    where
      all : KnowsNext (Rattle.arj_law_parts.specs.moves.Seen.down k d L)
      all = next (Rattle.arj_law_parts.specs.moves.Seen.down k d L) r

      low : incarnation L.start L.lines k ≤ d.inc
      low = (all.1 k (record { number = k; disk = d; live = None })
          (λ i. if same_number k i then Some (record { number = k; disk = d; live = None }) else L.nodes k)).0

      raised : (b : Bool) → (k == 1) ≡ b → RisesFrom (incarnation L.start L.lines 1) (numbered e (body.Up k (d.inc + 1) ∷ []))
      raised b is = (one b is, tt)
        where
          high : (i j : ℕ) → i ≤ j → i ≤ j + 1
          high i j le = omega (arith, le)

          one : (b : Bool) → (k == 1) ≡ b → incarnation L.start L.lines 1 ≤ (if k == 1 then d.inc + 1 else incarnation L.start L.lines 1)
          one true e = subst (λ z. incarnation L.start L.lines 1 ≤ (if z then d.inc + 1 else incarnation L.start L.lines 1)) (sym e)
              (high (incarnation L.start L.lines 1) d.inc (subst (λ j. incarnation L.start L.lines j ≤ d.inc) (eqb-true k 1 e) low))
          one false e = subst (λ z. incarnation L.start L.lines 1 ≤ (if z then d.inc + 1 else incarnation L.start L.lines 1)) (sym e) (omega arith)

      by : Rises L → OnWay e k (restart_outs hd k (d.inc + 1) d) (parts_in k (d.inc + 1) d) d L M → Rises M
      by before (Words.inl stop) = subst Rises stop.1 (rises_said e (body.Halted k ∷ []) L refl before)
      by before (Words.inr (Words.inl stop)) = subst Rises stop.1 (rises_said e (body.Halted k ∷ []) L refl before)
      by before (Words.inr (Words.inr go)) =
          still_way e k (halts.behind hd e k d L all.0) (parts_in k (d.inc + 1) d) (worked (Words.PutInc (d.inc + 1)) d)
          (said e (body.Up k (d.inc + 1) ∷ []) L) M (halts.behind_still hd e k d L all.0) go
          (rises_more (L.start.incs 1 + 1) L.lines (numbered e (body.Up k (d.inc + 1) ∷ [])) before (raised (k == 1) refl))
