-- A step of a node: its lines fit, and behind them they tell of the world that it leaves.
use Rattle.arj_law_parts.proofs.Words
use Words.{◌≡◌, ◌∙◌, ◌-◌, ◌≤◌, ◌==◌, ◌&&◌, ◌||◌, not, ℕ, zero, suc, Bool, true, false, List, [], ◌∷◌, ◌++◌, length, refl, sym, ap}
use Words.{subst, arith, Some, None, is_some, nat_lt, nat_tests, at_place, set_place}
use Words.{slice_set, Node, Input, Step, Body, Header, Frame}
use Words.{Effect, Say, Do, Look, PutInc, Disk, Stop, worked, stopped, bodies, count_works, cut, frames_with, most_frames, sends}
use Words.{halted_outs}
use Words.body
use Words.input
use Rattle.arj_law_parts.proofs.moves.Happens.{place_same}
use Rattle.arj_law_parts.proofs.steps.Shapes
use Shapes.{Shape, IsCrash, IsGot, IsNothing, IsPlain, IsRefusal, IsRestart, IsUnread, IsVoid, is_frame}
use Rattle.arj_law_parts.proofs.steps.Still.{Still}
use Rattle.arj_law_runs.proofs.follow.Telling
use Telling.{halted_tells, nothing_tells, same_tells, up_tells}
use Rattle.arj_law_runs.proofs.follow.Walking
use Walking.{AreFor, Goes, IsUp, Telling as Told, behind_all, bodies_said, cut_still, frames_none, goes_both, goes_first, goes_none}
use Walking.{goes_one, plain_goes, sends_said, stays_behind}
use Rattle.arj_law_runs.specs.follow.Frames.{frame_fits}
use Rattle.arj_model.specs.CauseNodes.{may_halt, restarts}
use Rattle.arj_model.specs.CauseSpans.{Here, behind}
use Rattle.arj_model.specs.Refusals.{is_down, is_node}

pub and_all : {a b : Bool} → a ≡ true → b ≡ true → (a && b) ≡ true
and_all a b = λ i. a i && b i

pub or_first : (a b : Bool) → a ≡ true → (a || b) ≡ true
or_first a b is = λ i. is i || b

pub or_last : (a b : Bool) → b ≡ true → (a || b) ≡ true
or_last a b is = (λ i. a || is i) ∙ by a
  where
    by : (a : Bool) → (a || true) ≡ true
    by true = refl
    by false = refl

-- no stop falls where no work is done
pub idle : (works : ℕ) (es : List Effect) → count_works es ≡ 0 → 1 ≤ works → nat_lt (count_works es) works ≡ false → ⊥
idle works es none some is = never works some ((λ j. nat_lt (sym none j) works) ∙ is)
  where
    never : (works : ℕ) → 1 ≤ works → nat_lt 0 works ≡ false → ⊥
    never works some is = grind (arith, nat_tests, some, is)

-- A node's place where its effects begin: what its lines are told behind, and who it is.
module _ (hd : Header) (k : ℕ) (n : Node) (ns : List Node) (there : at_place k ns ≡ Some n) (known : is_node hd k ≡ true) where
  pub is_up : is_some n.live ≡ true → IsUp hd k ns
  is_up up = record { node = n; there = there; up = up; number = known }

  -- the node is left, up or down as it was
  pub left : (h : Here) (bs : List Body) (fs : List Frame) (x : Node) → is_some x.live ≡ is_some n.live → Goes h bs fs ns → Goes h bs fs
      (set_place k x ns)
  left h bs fs x same g = let i = behind_all h bs in
      record { fit = g.fit; tells = same_tells i.start i.number i.lines fs ns k x n there same g.tells }

  -- it halts where it is up
  pub halts : (h : Here) (bs : List Body) (fs : List Frame) (d : Disk) → is_some n.live ≡ true → may_halt k h.event ≡ true → Goes h bs fs
      ns →
      Goes h (bs ++ body.Halted k ∷ []) fs (set_place k (record n { disk = d; live = None }) ns)
  halts h bs fs d up may g =
      let i = behind_all h bs in
      let s = stays_behind h bs in
      goes_both h bs (body.Halted k ∷ []) fs fs ns (set_place k (record n { disk = d; live = None }) ns) g
      (goes_one i (body.Halted k) fs (set_place k (record n { disk = d; live = None }) ns)
      (and_all (subst (λ e. may_halt k e ≡ true) (sym s.event) may)
      (or_first _ _ (λ j. not (off j))))
      (halted_tells i.start i.number i.lines fs ns k (record n { disk = d; live = None }) n refl there g.tells))
    where
      off : (let i = behind_all h bs in is_down i.start i.lines k) ≡ false
      off = g.tells.ups k n there ∙ ap not up

  -- effects that end with a halt
  pub cut_goes : (h : Here) (fs : List Frame) (outs : List Effect) (d : Disk) → is_some n.live ≡ true → may_halt k h.event ≡ true →
      (AreFor hd (frames_with fs (sends k outs)) → Goes h (bodies k (length fs) outs) (frames_with fs (sends k outs)) ns) →
      AreFor hd (frames_with fs (sends k (outs ++ Say (body.Halted k) ∷ []))) →
      Goes h (bodies k (length fs) (outs ++ Say (body.Halted k) ∷ [])) (frames_with fs (sends k (outs ++ Say (body.Halted k) ∷ [])))
      (set_place k (record n { disk = d; live = None }) ns)
  cut_goes h fs outs d up may goes for =
      let same = ap (λ xs. frames_with fs xs) (sends_said k outs (body.Halted k)) in
      subst (λ gs. Goes h (bodies k (length fs) (outs ++ Say (body.Halted k) ∷ [])) gs
      (set_place k (record n { disk = d; live = None }) ns)) (sym same)
      (subst (λ bs. Goes h bs (frames_with fs (sends k outs)) (set_place k (record n { disk = d; live = None }) ns))
      (sym (bodies_said k (length fs) outs (body.Halted k)))
      (halts h (bodies k (length fs) outs) (frames_with fs (sends k outs)) d up may (goes (subst (AreFor hd) same for))))

-- ---- but frames

module _ (hd : Header) (k : ℕ) (n : Node) (ns : List Node) (there : at_place k ns ≡ Some n) (known : is_node hd k ≡ true) where
  -- what the event allows of the node
  pub record Allows (h : Here) (i : Input) : Type 0 where
    pub header : h.header ≡ hd
    pub halts : may_halt k h.event ≡ true
    pub restart : i ≡ input.Restart → (restarts k h.event ≡ true) × ((length h.lines == h.first) ≡ true)

  module _ (h : Here) (i : Input) (allows : Allows h i) (fs : List Frame) (few : length fs ≤ most_frames) (tells : Told h fs ns) where
    abbrev Leaves : List Effect → Node → Type 0
    Leaves outs x = Goes h (bodies k (length fs) outs) (frames_with fs (sends k outs)) (set_place k x ns)

    -- no more than a line, which tells nothing
    one_line : (b : Body) (x : Node) → frame_fits h b ≡ true → Told (behind h b) fs ns → is_some x.live ≡ is_some n.live →
        Leaves (Say b ∷ []) x
    one_line b x fits t same = subst (λ gs. Goes h (b ∷ []) gs (set_place k x ns)) (sym (frames_none fs))
        (left hd k n ns there known h (b ∷ []) fs x same (goes_one h b fs ns fits t))

    -- a node that comes up
    up_goes : (inc : ℕ) (o : List Effect) (x : Node) → is_some x.live ≡ true → Still o → AreFor hd (frames_with fs (sends k o)) →
        Goes h (body.Up k inc ∷ bodies k (length fs) o) (frames_with fs (sends k o)) (set_place k x ns)
    up_goes inc o x on all for =
        let b : Body = body.Up k inc in
        let t = up_tells h.start h.number h.lines fs ns k inc x n on there tells in
        let u : IsUp hd k (set_place k x ns) = record { node = x; there = place_here; up = on; number = known } in
        goes_first h b (bodies k (length fs) o) (frames_with fs (sends k o)) (set_place k x ns) refl
        (plain_goes hd k (set_place k x ns) u o (behind h b) fs allows.header all few for t)
      where
        place_here : at_place k (set_place k x ns) ≡ Some x
        place_here = place_same k x n ns there

    pub done : (s : Step) → is_frame i ≡ false → Shape hd n i s → n.number ≡ k → AreFor hd (frames_with fs (sends k s.outs)) → Leaves
        s.outs s.after
    done s other (IsRefusal c is same) own for = subst (λ (v : Step). Leaves v.outs v.after) (sym same)
        (one_line (body.Refused c) n refl (nothing_tells h.start h.number h.lines fs ns (body.Refused c) refl tells) refl)
    done s other (IsNothing o outs halting after) own for =
        subst (λ x. Leaves s.outs x) (sym after) (subst (λ es. Leaves es n) (sym outs)
        (subst (λ gs. Goes h [] gs (set_place k n ns)) (sym (frames_none fs)) (left hd k n ns there known h [] fs n refl
        (goes_none h fs ns tells))))
    done s other (IsPlain o up all same live) own for = left hd k n ns there known h (bodies k (length fs) s.outs)
        (frames_with fs (sends k s.outs)) s.after (live ∙ sym up)
        (plain_goes hd k ns (is_up hd k n ns there known up) s.outs h fs allows.header all few for tells)
    done s other (IsGot j from m o is up all outs halting live) own for = let no_way : true ≡ false = ap is_frame (sym is) ∙ other in cc
    done s other (IsVoid j from m o is up may all outs halting after) own for = let no_way : true ≡ false = ap is_frame (sym is) ∙ other in
        cc
    done s other (IsUnread j from m is why outs halting after) own for = let no_way : true ≡ false = ap is_frame (sym is) ∙ other in cc
    done s other (IsRestart inc o is off same all outs halting live) own for =
        subst (λ es. Leaves es s.after) (sym outs)
        (subst (λ j. Goes h (body.Up j inc ∷ bodies k (length fs) o) (frames_with fs (sends k o)) (set_place k s.after ns)) (sym own)
        (up_goes inc o s.after live all (subst (λ es. AreFor hd (frames_with fs (sends k es))) outs for)))
    done s other (IsCrash is up outs halting off) own for =
        subst (λ es. Leaves es s.after) (sym outs) (subst (λ gs. Goes h (body.Halted n.number ∷ []) gs (set_place k s.after ns))
        (sym (frames_none fs))
        (subst (λ j. Goes h (body.Halted j ∷ []) fs (set_place k s.after ns)) (sym own)
        (goes_one h (body.Halted k) fs (set_place k s.after ns) (and_all allows.halts (or_first _ _ (λ j. not (on j))))
        (halted_tells h.start h.number h.lines fs ns k s.after n (ap (λ o. is_some o) off) there tells))))
      where
        on : is_down h.start h.lines k ≡ false
        on = tells.ups k n there ∙ ap not up

    -- ---- a stop falls

    -- the node stops before it is up again
    first_halt : (d : Disk) → restarts k h.event ≡ true → (length h.lines == h.first) ≡ true → is_some n.live ≡ false →
        Goes h (body.Halted k ∷ []) fs (set_place k (record n { disk = d; live = None }) ns)
    first_halt d it first off = goes_one h (body.Halted k) fs (set_place k (record n { disk = d; live = None }) ns)
        (and_all allows.halts (or_last (not (is_down h.start h.lines k)) _ (and_all it first)))
        (halted_tells h.start h.number h.lines fs ns k (record n { disk = d; live = None }) n refl there tells)

    none_sent : (bs : List Body) (x : Node) → Goes h bs fs (set_place k x ns) → Goes h bs (frames_with fs []) (set_place k x ns)
    none_sent bs x g = subst (λ gs. Goes h bs gs (set_place k x ns)) (sym (frames_none fs)) g

    -- a node that comes up, and stops then
    up_cut : (c : ℕ) (how : Stop) (inc : ℕ) (o : List Effect) (e : Disk) (x : Node) → is_some x.live ≡ true → x.number ≡ n.number → Still o
        →
        (let q = cut c how o e in AreFor hd (frames_with fs (sends k (q.outs ++ Say (body.Halted k) ∷ []))) →
        Goes h (body.Up k inc ∷ bodies k (length fs) (q.outs ++ Say (body.Halted k) ∷ []))
        (frames_with fs (sends k (q.outs ++ Say (body.Halted k) ∷ [])))
        (set_place k (record n { disk = q.disk; live = None }) ns))
    up_cut c how inc o e x on same all for =
        let q = cut c how o e in
        let b : Body = body.Up k inc in
        let t = up_tells h.start h.number h.lines fs ns k inc x n on there tells in
        let here = place_same k x n ns there in
        let u : IsUp hd k (set_place k x ns) = record { node = x; there = here; up = on; number = known } in
        let g = cut_goes hd k x (set_place k x ns) here known (behind h b) fs q.outs q.disk on allows.halts
        (λ all_for. plain_goes hd k (set_place k x ns) u q.outs (behind h b) fs allows.header (cut_still c how o e all) few all_for t) for
        in
        goes_first h b (bodies k (length fs) (q.outs ++ Say (body.Halted k) ∷ []))
        (frames_with fs (sends k (q.outs ++ Say (body.Halted k) ∷ [])))
        (set_place k (record n { disk = q.disk; live = None }) ns) refl
        (subst (Goes (behind h b) (bodies k (length fs) (q.outs ++ Say (body.Halted k) ∷ []))
        (frames_with fs (sends k (q.outs ++ Say (body.Halted k) ∷ []))))
        (same_down q.disk) g)
      where
        twice : (j : ℕ) (a b : Node) (ms : List Node) → set_place j a (set_place j b ms) ≡ set_place j a ms
        twice zero a b ms = refl
        twice (suc j) a b ms = go j ms
          where
            go : (j : ℕ) (ms : List Node) → slice_set (slice_set ms j b) j a ≡ slice_set ms j a
            go j [] = refl
            go zero (m ∷ ms) = refl
            go (suc j) (m ∷ ms) = ap (λ (xs : List Node). m ∷ xs) (go j ms)

        same_down : (e : Disk) → set_place k (record x { disk = e; live = None }) (set_place k x ns) ≡ set_place k
            (record n { disk = e; live = None }) ns
        same_down e = twice k (record x { disk = e; live = None }) x ns ∙ ap (λ j. set_place k
            (record { number = j; disk = e; live = None }) ns) same

    -- a restart that is cut
    restart_cut : (c : ℕ) (how : Stop) (inc : ℕ) (o : List Effect) (x : Node) → restarts k h.event ≡ true →
        (length h.lines == h.first) ≡ true → is_some n.live ≡ false → is_some x.live ≡ true → x.number ≡ n.number → Still o →
        (let q = cut c how (Do Look ∷ Do (PutInc inc) ∷ Say (body.Up k inc) ∷ o) n.disk in AreFor hd
        (frames_with fs (sends k (halted_outs k q))) →
        Leaves (halted_outs k q) (record n { disk = q.disk; live = None }))
    restart_cut zero how inc o x it first off on same all for =
        none_sent (body.Halted k ∷ []) (record n { disk = stopped how Look n.disk; live = None })
        (first_halt (stopped how Look n.disk) it first off)
    restart_cut (suc zero) how inc o x it first off on same all for =
        none_sent (body.Halted k ∷ []) (record n { disk = stopped how (PutInc inc) (worked Look n.disk); live = None })
        (first_halt (stopped how (PutInc inc) (worked Look n.disk)) it first off)
    restart_cut (suc (suc zero)) how inc o x it first off on same all for = up_cut zero how inc o
        (worked (PutInc inc) (worked Look n.disk)) x on same all for
    restart_cut (suc (suc (suc c))) how inc o x it first off on same all for =
        up_cut (suc c) how inc o (worked (PutInc inc) (worked Look n.disk)) x on same all for

    pub cut_done : (s : Step) (works : ℕ) (how : Stop) → is_frame i ≡ false → Shape hd n i s → n.number ≡ k → s.after.number ≡ n.number → 1
        ≤ works →
        nat_lt (count_works s.halting) works ≡ false →
        (let q = cut (works - 1) how s.halting n.disk in AreFor hd (frames_with fs (sends k (halted_outs k q))) → Leaves (halted_outs k q)
        (record n { disk = q.disk; live = None }))
    cut_done s works how other (IsRefusal c is same) own number some over for = absurd
        (idle works s.halting (ap (λ (v : Step). count_works v.halting) same) some over)
    cut_done s works how other (IsNothing o outs halting after) own number some over for = absurd
        (idle works s.halting (ap count_works halting) some over)
    cut_done s works how other (IsPlain o up all same live) own number some over for =
        let q = cut (works - 1) how s.halting n.disk in
        let still = cut_still (works - 1) how s.halting n.disk (subst Still (sym same) all) in
        cut_goes hd k n ns there known h fs q.outs q.disk up allows.halts
        (λ all_for. plain_goes hd k ns (is_up hd k n ns there known up) q.outs h fs allows.header still few all_for tells) for
    cut_done s works how other (IsGot j from m o is up all outs halting live) own number some over for =
        let no_way : true ≡ false = ap is_frame (sym is) ∙ other in cc
    cut_done s works how other (IsVoid j from m o is up may all outs halting after) own number some over for =
        let no_way : true ≡ false = ap is_frame (sym is) ∙ other in cc
    cut_done s works how other (IsUnread j from m is why outs halting after) own number some over for =
        let no_way : true ≡ false = ap is_frame (sym is) ∙ other in cc
    cut_done s works how other (IsRestart inc o is off same all outs halting live) own number some over for =
        let r = allows.restart is in
        let these : s.halting ≡ Do Look ∷ Do (PutInc inc) ∷ Say (body.Up k inc) ∷ o =
        halting ∙ outs ∙ ap (λ j. Do Look ∷ Do (PutInc inc) ∷ Say (body.Up j inc) ∷ o) own in
        subst (λ es. let q = cut (works - 1) how es n.disk in AreFor hd (frames_with fs (sends k (halted_outs k q))) → Leaves
        (halted_outs k q) (record n { disk = q.disk; live = None }))
        (sym these) (restart_cut (works - 1) how inc o s.after r.0 r.1 off live number all) for
    cut_done s works how other (IsCrash is up outs halting off) own number some over for =
        absurd (idle works s.halting (ap count_works (halting ∙ outs)) some over)
