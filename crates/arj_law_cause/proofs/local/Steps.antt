-- The lines of a step of a node are its own, wherever a stop falls; one that takes a frame says so first.
use Rattle.arj_law_parts.proofs.Words
use Words.{◌≡◌, ◌⊎◌, ◌∙◌, ◌==◌, ◌&&◌, ◌+◌, ◌++◌, ℕ, zero, suc, Bool, true, false, cond, List, [], ◌∷◌, refl, sym, ap, subst, nat_tests}
use Words.{arith}
use Words.{inl, inr, Option, Some, None, list_all, and_parts, all_both, all_flat, Body, Line, Header, Message, Uid, Intent, Coord, Did}
use Words.{Disk}
use Words.{Effect, Say, Send, Do, Look, PutInc, Stop, worked, Handled, Void, Took, Parts, Naming, Named, ObjectState, Pair, Node, Step}
use Words.{Input}
use Words.{bodies, sent_line, frame_kind, most_frames, nat_le, cut, halted_outs, whole, with_coord, node_did, void_step, frame_step}
use Words.{handled_step, taken, again_all, tick_step, tolds_again, tell_all, tell, query_about, holders, acts, step, step_of, step_unless}
use Words.{restart_outs, parts_in, naming_at, naming_back, recovered_naming, recovered_records, back_lines, hello_to, without_number}
use Words.{numbers_to, uid_set, prepared_actions, show_outs, show_entry, shown, entry_line, copy_line, entry, object, holder_of, held_at}
use Words.{refusal}
use Words.body
use Words.ending
use Words.input
use Rattle.arj_law_parts.proofs.coordinator.Walks.{acts_trace, again_trace}
use Rattle.arj_law_parts.proofs.moves.Rounds.{AreLooks, is_look}
use Rattle.arj_law_serial.proofs.holding.Says.{map_says, says}
use Rattle.arj_law_cause.proofs.follow.lines.Saying.{Tells, list_both}
use Rattle.arj_law_cause.proofs.local.Handled.{Fine, IsHome, Own, taken_own, whole_own}
use Rattle.arj_law_cause.proofs.local.Labels.{BeginsNone, trace_own}
use Rattle.arj_law_cause.specs.told.Local.{is_own_line}
use Rattle.arj_law_parts.proofs.coordinator.Trace.{Takes}

module _ (lines : List Line) (k : ℕ) where
  abbrev pub AreOwn : List Body → Type 0
  AreOwn bs = list_all (is_own_line lines k) bs ≡ true

  itself : (k == k) ≡ true
  itself = grind (arith, nat_tests)

  bodies_own : (j : ℕ) (es : List Effect) → Own lines k es → AreOwn (bodies k j es)
  bodies_own j [] all = refl
  bodies_own j (Say b ∷ es) all =
      let p = and_parts (is_own_line lines k b) (list_all (says (is_own_line lines k)) es) all in λ i. p.0 i && bodies_own j es p.1 i
  bodies_own j (Do w ∷ es) all = bodies_own j es all
  bodies_own j (Send to m ∷ es) all =
      list_both (is_own_line lines k) (sent_line (j + 1) k to (frame_kind m)) (bodies k (j + 1) es) (by (nat_le (j + 1) most_frames))
      (bodies_own (j + 1) es all)
    where
      by : (b : Bool) → list_all (is_own_line lines k) (cond b (body.Sent (j + 1) k to (frame_kind m) ∷ []) []) ≡ true
      by true = λ i. itself i && true
      by false = refl

  cut_own : (c : ℕ) (how : Stop) (es : List Effect) (d : Disk) → Own lines k es → Own lines k (cut c how es d).outs
  cut_own c how [] d all = refl
  cut_own zero how (Do w ∷ es) d all = refl
  cut_own (suc c) how (Do w ∷ es) d all = cut_own c how es (worked w d) all
  cut_own zero how (Say b ∷ es) d all =
      let p = and_parts (is_own_line lines k b) (list_all (says (is_own_line lines k)) es) all in λ i. p.0 i && cut_own zero how es d p.1 i
  cut_own (suc c) how (Say b ∷ es) d all =
      let p = and_parts (is_own_line lines k b) (list_all (says (is_own_line lines k)) es) all in
      λ i. p.0 i && cut_own (suc c) how es d p.1 i
  cut_own zero how (Send to m ∷ es) d all = cut_own zero how es d all
  cut_own (suc c) how (Send to m ∷ es) d all = cut_own (suc c) how es d all

  halted_own : (j c : ℕ) (how : Stop) (es : List Effect) (d : Disk) → Own lines k es → AreOwn (bodies k j (halted_outs k (cut c how es d)))
  halted_own j c how es d all = bodies_own j (halted_outs k (cut c how es d))
      (all_both (says (is_own_line lines k)) (cut c how es d).outs (Say (body.Halted k) ∷ []) (cut_own c how es d all)
      (λ i. itself i && true))

  pub tells_own : (d : Disk) (s : Step) → Own lines k s.outs → Own lines k s.halting → Tells AreOwn k d s
  tells_own d s all also = record {
    through = λ j. bodies_own j s.outs all;
    halted = λ j c how. halted_own j c how s.halting d also;
  }

  -- ---- a frame

  -- it was taken, with lines of the node behind, or is void
  abbrev pub IsTaken : ℕ → List Body → Type 0
  IsTaken f bs = ((own : List Body) × (bs ≡ body.Got f ∷ own) × AreOwn own) ⊎ (bs ≡ body.Void f ∷ [])

  module _ (f : ℕ) where
    cut_taken : (j c : ℕ) (how : Stop) (es : List Effect) (d : Disk) → Own lines k es →
        IsTaken f (bodies k j (halted_outs k (cut c how (Say (body.Got f) ∷ es) d)))
    cut_taken j zero how es d all = inl (bodies k j (halted_outs k (cut zero how es d)), refl, halted_own j zero how es d all)
    cut_taken j (suc c) how es d all = inl (bodies k j (halted_outs k (cut (suc c) how es d)), refl, halted_own j (suc c) how es d all)

    looks_none : (es : List Effect) → AreLooks es → Own lines k es
    looks_none [] all = refl
    looks_none (Do w ∷ es) all = looks_none es (and_parts (is_look (Do w)) (list_all is_look es) all).1
    looks_none (Say b ∷ es) all = absurd (cc all)
    looks_none (Send to m ∷ es) all = absurd (cc all)

    void_bodies : (j : ℕ) (es : List Effect) → AreLooks es → bodies k j (es ++ Say (body.Void f) ∷ []) ≡ body.Void f ∷ []
    void_bodies j [] all = refl
    void_bodies j (Do w ∷ es) all = void_bodies j es (and_parts (is_look (Do w)) (list_all is_look es) all).1
    void_bodies j (Say b ∷ es) all = absurd (cc all)
    void_bodies j (Send to m ∷ es) all = absurd (cc all)

    void_tells : (n : Node) (es : List Effect) → AreLooks es → Tells (IsTaken f) k n.disk (void_step f n es)
    void_tells n es looks = record {
      through = λ j. inr (void_bodies j es looks);
      halted = λ j c how. cut_taken j c how es n.disk (looks_none es looks);
    }

    got_tells : (d : Disk) (s : Step) (es : List Effect) →
        s.outs ≡ Say (body.Got f) ∷ es → s.halting ≡ Say (body.Got f) ∷ es → Own lines k es →
        Tells (IsTaken f) k d s
    got_tells d s es outs halting all = record {
      through = λ j. inl (bodies k j es, ap (bodies k j) outs, bodies_own j es all);
      halted = λ j c how. subst (λ xs. IsTaken f (bodies k j (halted_outs k (cut c how xs d)))) (sym halting) (cut_taken j c how es d all);
    }

-- ---- what a node does

module _ (lines : List Line) (n : Node) where
  abbrev k : ℕ
  k = n.number

  -- lines of effects that are its own, with all messages to itself
  did_own : (t : Parts) (outs : List Effect) → Own lines k outs → IsHome lines k t → Tells (AreOwn lines k) k n.disk (node_did n [] t outs)
  did_own t outs all home =
      let w = whole_own lines k t outs n.disk all home in tells_own lines k n.disk (node_did n [] t outs) w w

  tolds_own : (telling : List (Uid × Intent)) → Own lines k (tolds_again telling)
  tolds_own telling = all_flat (says (is_own_line lines k))
      (λ (e : Uid × Intent). tell_all e.1.root true ((e.0, ending.Commit) ∷ []) e.1.nodes) telling
      (λ e. map_says (is_own_line lines k) (tell e.1.root true ((e.0, ending.Commit) ∷ [])) e.1.nodes (λ m. refl))

  module _ (t : Parts) (home : IsHome lines k t) where
    frame_up : (f from : ℕ) (m : Option Message) → Tells (IsTaken lines k f) k n.disk (frame_step f from n t m)
    frame_up f from None = void_tells lines k f n [] refl
    frame_up f from (Some m) = by (taken k n.disk t from m) (taken_own lines k n.disk t from home m)
      where
        by : (v : Handled) → Fine lines k n.disk t from home v → Tells (IsTaken lines k f) k n.disk (handled_step f n v)
        by (Void outs) fine = void_tells lines k f n outs fine
        by (Took u outs) fine = got_tells lines k f n.disk (node_did n (Say (body.Got f) ∷ []) u outs)
            (whole k u outs n.disk).outs refl refl
            (whole_own lines k u outs n.disk fine.0 fine.1)

    acts_up : (i : Input) → BeginsNone (Takes i n.disk.intents) →
        Tells (AreOwn lines k) k n.disk (input.coord_did n t (acts i n.disk.intents t.coord))
    acts_up i none =
        let r = trace_own lines k none (acts_trace t.coord i n.disk.intents) home.0 in
        did_own (with_coord t (acts i n.disk.intents t.coord).part) (acts i n.disk.intents t.coord).outs r.0 (r.1, home.1)

    tick_up : Tells (AreOwn lines k) k n.disk (tick_step n t)
    tick_up =
        let d = again_all t.coord.doings t.coord in
        let r = trace_own lines k tt (again_trace t.coord) home.0 in
        let map_asks = Words.map query_about (holders n.disk t) in
        did_own (with_coord t d.part) (d.outs ++ tolds_again t.coord.telling ++ map_asks)
        (all_both (says (is_own_line lines k)) (d.outs ++ tolds_again t.coord.telling) map_asks
        (all_both (says (is_own_line lines k)) d.outs (tolds_again t.coord.telling) r.0 (tolds_own t.coord.telling))
        (map_says (is_own_line lines k) query_about (holders n.disk t) (λ u. refl))) (r.1, home.1)

  -- ---- up or down

  abbrev Homes : Type 0
  Homes = (t : Parts) → n.live ≡ Some t → IsHome lines k t

  pub frame_any : (hd : Header) (f from : ℕ) (m : Option Message) → Homes →
      Tells (IsTaken lines k f) k n.disk (step hd n (input.Frame f from m))
  frame_any hd f from m homes = by n.live refl
    where
      by : (o : Option Parts) → n.live ≡ o → Tells (IsTaken lines k f) k n.disk (step hd n (input.Frame f from m))
      by None is = subst (Tells (IsTaken lines k f) k n.disk) (sym (ap (step_unless hd (input.Frame f from m) n)
          (ap (input.refusal_at hd (input.Frame f from m)) is) ∙ ap (step_of hd (input.Frame f from m) n) is))
          (void_tells lines k f n [] refl)
      by (Some t) is = subst (Tells (IsTaken lines k f) k n.disk) (sym (ap (step_unless hd (input.Frame f from m) n)
          (ap (input.refusal_at hd (input.Frame f from m)) is) ∙ ap (step_of hd (input.Frame f from m) n) is))
          (frame_up t (homes t is) f from m)

  pub tick_any : (hd : Header) → Homes → Tells (AreOwn lines k) k n.disk (step hd n input.Tick)
  tick_any hd homes = by n.live refl
    where
      by : (o : Option Parts) → n.live ≡ o → Tells (AreOwn lines k) k n.disk (step hd n input.Tick)
      by None is = subst (Tells (AreOwn lines k) k n.disk) (sym (ap (step_unless hd input.Tick n)
          (ap (input.refusal_at hd input.Tick) is) ∙ ap (step_of hd input.Tick n) is))
          (tells_own lines k n.disk (input.does_nothing n) refl refl)
      by (Some t) is = subst (Tells (AreOwn lines k) k n.disk) (sym (ap (step_unless hd input.Tick n)
          (ap (input.refusal_at hd input.Tick) is) ∙ ap (step_of hd input.Tick n) is)) (tick_up t (homes t is))

  -- an input about an action that isn't refused
  pub act_any : (hd : Header) (i : Input) (t : Parts) → n.live ≡ Some t → refusal hd i n ≡ None →
      input.step_up i n t ≡ input.coord_did n t (acts i n.disk.intents t.coord) → BeginsNone (Takes i n.disk.intents) → IsHome lines k t →
      Tells (AreOwn lines k) k n.disk (step hd n i)
  act_any hd i t live free is none home = subst (Tells (AreOwn lines k) k n.disk)
      (sym (ap (step_unless hd i n) free ∙ ap (step_of hd i n) live ∙ is)) (acts_up t home i none)

  -- a node that is down comes up
  restart_outs_own : (hd : Header) (inc : ℕ) → Own lines k (restart_outs hd k inc n.disk)
  restart_outs_own hd inc =
      let back = naming_back (naming_at k inc n.disk.names) in
      let records = Do Look ∷ recovered_records k n.disk.intents in
      let questions = Words.map query_about (uid_set (prepared_actions n.disk.store ++ prepared_actions n.disk.names)) in
      let hellos = Words.map (hello_to k inc) (without_number k (numbers_to hd.nodes)) in
      let first = Do Look ∷ Do (PutInc inc) ∷ Say (body.Up k inc) ∷ Do Look ∷ back in
      let S = says (is_own_line lines k) in
      all_both S (first ++ records ++ tolds_again n.disk.intents ++ questions) hellos
      (all_both S (first ++ records ++ tolds_again n.disk.intents) questions
      (all_both S (first ++ records) (tolds_again n.disk.intents)
      (all_both S first records (λ i. itself lines k i && named (k == 1) refl i)
      (map_says (is_own_line lines k) _ n.disk.intents (λ e. itself lines k)))
      (tolds_own n.disk.intents))
      (map_says (is_own_line lines k) query_about (uid_set (prepared_actions n.disk.store ++ prepared_actions n.disk.names)) (λ u. refl)))
      (map_says (is_own_line lines k) (hello_to k inc) (without_number k (numbers_to hd.nodes)) (λ m. refl))
    where
      one_at : (j : ℕ) → (j == 1) ≡ true → (1 == j) ≡ true
      one_at j is = grind (arith, nat_tests, is)

      named : (b : Bool) → (k == 1) ≡ b → Own lines k (naming_back (cond b (Some (recovered_naming inc n.disk.names)) None))
      named false is = refl
      named true is = let o = recovered_naming inc n.disk.names in
          all_flat (says (is_own_line lines k)) (λ (e : ℕ × Named). back_lines e.1) o.objects
          (λ e. map_says (is_own_line lines k) _ e.1.rows (λ r. one_at k is))

  restart_own : (hd : Header) → Tells (AreOwn lines k) k n.disk (input.restart_step hd n)
  restart_own hd = did_own (parts_in k (n.disk.inc + 1) n.disk) (restart_outs hd k (n.disk.inc + 1) n.disk)
      (restart_outs_own hd (n.disk.inc + 1)) (tt, λ o is. at_one (k == 1) refl o is)
    where
      at_one : (b : Bool) → (k == 1) ≡ b → (o : Naming) →
          cond b (Some (recovered_naming (n.disk.inc + 1) n.disk.names)) None ≡ Some o → k ≡ 1
      at_one true one o is = Words.eqb-true k 1 one
      at_one false one o is = let no_way : ◌≡◌ {A = Option Naming} None (Some o) = is in absurd (cc no_way)

  pub restart_any : (hd : Header) → Tells (AreOwn lines k) k n.disk (step hd n input.Restart)
  restart_any hd = by n.live refl
    where
      by : (o : Option Parts) → n.live ≡ o → Tells (AreOwn lines k) k n.disk (step hd n input.Restart)
      by None is = subst (Tells (AreOwn lines k) k n.disk) (sym (ap (step_unless hd input.Restart n)
          (ap (input.refusal_at hd input.Restart) is) ∙ ap (step_of hd input.Restart n) is)) (restart_own hd)
      by (Some t) is = subst (Tells (AreOwn lines k) k n.disk) (sym (ap (step_unless hd input.Restart n)
          (ap (input.refusal_at hd input.Restart) is) ∙ ap (step_of hd input.Restart n) is))
          (tells_own lines k n.disk (input.does_nothing n) refl refl)

  -- it shows what it holds
  shown_own : (line : Option ObjectState → List Effect) (u : Uid) (d : Pair) → ((o : Option ObjectState) → Own lines k (line o)) →
      Own lines k (shown line u d (holder_of u d))
  shown_own line u d each = by (holder_of u d)
    where
      by : (o : Option Uid) → Own lines k (shown line u d o)
      by (Some holder) = refl
      by None = each (held_at u d)

  show_own : (x : ℕ) → Own lines k (show_outs k x n.disk)
  show_own x = all_both (says (is_own_line lines k)) (show_entry k x n.disk.names)
      (shown (copy_line k x) (object x) n.disk.store (holder_of (object x) n.disk.store))
      (by (k == 1) refl) (shown_own (copy_line k x) (object x) n.disk.store copy)
    where
      copy : (o : Option ObjectState) → Own lines k (copy_line k x o)
      copy None = refl
      copy (Some z) = λ i. itself lines k i && true

      line : (k == 1) ≡ true → (o : Option ObjectState) → Own lines k (entry_line x o)
      line one None = refl
      line one (Some z) = λ i. one i && true

      by : (b : Bool) → (k == 1) ≡ b →
          Own lines k (cond b (shown (entry_line x) (entry x) n.disk.names (holder_of (entry x) n.disk.names)) [])
      by true one = shown_own (entry_line x) (entry x) n.disk.names (line one)
      by false one = refl

  pub show_any : (hd : Header) (x : ℕ) → Tells (AreOwn lines k) k n.disk (step hd n (input.Show x))
  show_any hd x = by n.live refl
    where
      by : (o : Option Parts) → n.live ≡ o → Tells (AreOwn lines k) k n.disk (step hd n (input.Show x))
      by None is = subst (Tells (AreOwn lines k) k n.disk) (sym (ap (step_unless hd (input.Show x) n)
          (ap (input.refusal_at hd (input.Show x)) is) ∙ ap (step_of hd (input.Show x) n) is))
          (tells_own lines k n.disk (input.does_nothing n) refl refl)
      by (Some t) is = subst (Tells (AreOwn lines k) k n.disk) (sym (ap (step_unless hd (input.Show x) n)
          (ap (input.refusal_at hd (input.Show x)) is) ∙ ap (step_of hd (input.Show x) n) is))
          (tells_own lines k n.disk (input.show_step x n) (show_own x) (show_own x))
