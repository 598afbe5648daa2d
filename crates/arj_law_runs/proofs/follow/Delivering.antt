-- A frame that is delivered: its line fits, and so do those of the node that takes it.
use Rattle.arj_law_parts.proofs.Words
use Words.{◌≡◌, ◌∙◌, ◌-◌, ◌≤◌, ◌&&◌, ◌||◌, not, ℕ, zero, suc, Bool, true, false, List, [], ◌∷◌, ◌++◌, length, refl, sym, ap}
use Words.{subst, arith, inl, inr, ◌⊎◌, Option, Some, None, is_some, take, nat_lt, at_place, set_place}
use Words.{slice_get, slice_set, Node, Input, Step, Parts, refusal_at, Body, Header, Message, Frame}
use Words.{Effect, Say, Stop, bodies, count_works, cut, frames_with, most_frames, sends, halted_outs, as_delivered}
use Words.body
use Words.input
use Words.message
use Rattle.arj_law_parts.proofs.steps.Shapes
use Shapes.{Shape, IsCrash, IsGot, IsNothing, IsPlain, IsRefusal, IsRestart, IsUnread, IsVoid, is_frame, may_be_void}
use Rattle.arj_law_parts.proofs.steps.Still.{Still}
use Rattle.arj_law_runs.proofs.follow.Stepping.{and_all, cut_goes, idle, left, or_first, or_last}
use Rattle.arj_law_runs.proofs.follow.Telling
use Telling.{carried_by, frame_test, got_tells, void_tells}
use Rattle.arj_law_runs.proofs.follow.Walking
use Walking.{AreFor, Goes, IsUp, Telling as Told, behind_all, bodies_said, cut_still, frames_none, goes_both, goes_first}
use Walking.{goes_one, no_junk, plain_goes, sends_said, stays_behind}
use Rattle.arj_law_runs.specs.follow.Frames.{frame_fits}
use Rattle.arj_model.specs.CauseNodes.{delivers, is_always_taken, may_halt}
use Rattle.arj_model.specs.CauseSpans.{Here, behind, same_frame}
use Rattle.arj_model.specs.Refusals.{is_down, is_node}
use Rattle.arj_protocol.specs.Words.{FrameKind, frame.Junk}

-- ---- a frame among others

-- a frame stays where it is, whatever comes behind
there_on : {A : Type 0} (j : ℕ) (xs ys : List A) (a : A) → at_place j xs ≡ Some a → at_place j (xs ++ ys) ≡ Some a
there_on {A} zero xs ys a is = let no_way : ◌≡◌ {A = Option A} None (Some a) = is in absurd (cc no_way)
there_on {A} (suc j) xs ys a is = go j xs is
  where
    go : (j : ℕ) (xs : List A) → slice_get xs j ≡ Some a → slice_get (xs ++ ys) j ≡ Some a
    go j [] is = let no_way : ◌≡◌ {A = Option A} None (Some a) = is in absurd (cc no_way)
    go zero (x ∷ xs) is = is
    go (suc j) (x ∷ xs) is = go j xs is

set_on : {A : Type 0} (j : ℕ) (xs ys : List A) (a b : A) → at_place j xs ≡ Some a → set_place j b (xs ++ ys) ≡ set_place j b xs ++ ys
set_on {A} zero xs ys a b is = refl
set_on {A} (suc j) xs ys a b is = go j xs is
  where
    go : (j : ℕ) (xs : List A) → slice_get xs j ≡ Some a → slice_set (xs ++ ys) j b ≡ slice_set xs j b ++ ys
    go j [] is = let no_way : ◌≡◌ {A = Option A} None (Some a) = is in absurd (cc no_way)
    go zero (x ∷ xs) is = refl
    go (suc j) (x ∷ xs) is = ap (λ (zs : List A). x ∷ zs) (go j xs is)

pub set_long : {A : Type 0} (j : ℕ) (xs : List A) (b : A) → length (set_place j b xs) ≡ length xs
set_long zero xs b = refl
set_long {A} (suc j) xs b = go j xs
  where
    go : (j : ℕ) (xs : List A) → length (slice_set xs j b) ≡ length xs
    go j [] = refl
    go zero (x ∷ xs) = refl
    go (suc j) (x ∷ xs) = ap suc (go j xs)

-- what is for nodes stays so as a frame is marked
for_set : (hd : Header) (j : ℕ) (fs : List Frame) (f : Frame) → at_place j fs ≡ Some f → AreFor hd (set_place j (as_delivered f) fs) →
    AreFor hd fs
for_set hd zero fs f is all = all
for_set hd (suc j) fs f is all = go j fs is all
  where
    go : (j : ℕ) (fs : List Frame) → slice_get fs j ≡ Some f → AreFor hd (slice_set fs j (as_delivered f)) → AreFor hd fs
    go j [] is all = all
    go zero (g ∷ fs) is all = let same : g ≡ f = cc is in (subst (λ (x : Frame). is_node hd x.to ≡ true) (sym same) all.0, all.1)
    go (suc j) (g ∷ fs) is all = (all.0, go j fs is all.1)

-- a void message is none of those that are always taken
void_kind : (m : Message) → may_be_void (Some m) ≡ true → is_always_taken (carried_by (Some m)) ≡ false
void_kind (message.Bind m) is = refl
void_kind (message.Bound m) is = refl
void_kind (message.Load m) is = refl
void_kind (message.Loaded m) is = refl
void_kind (message.Activate m) is = refl
void_kind (message.Activated m) is = refl
void_kind (message.RecordMsg m) is = refl
void_kind (message.Recorded m) is = refl
void_kind (message.Invoke m) is = refl
void_kind (message.Invoked m) is = refl
void_kind (message.Vote m) is = refl
void_kind (message.Voted m) is = refl
void_kind (message.Prepare m) is = refl
void_kind (message.Prepared m) is = refl
void_kind (message.Confirm m) is = refl
void_kind (message.Confirmed m) is = refl
void_kind (message.Told m) is = let no_way : false ≡ true = is in cc
void_kind (message.Acked m) is = refl
void_kind (message.Query m) is = let no_way : false ≡ true = is in cc
void_kind (message.Hello m) is = let no_way : false ≡ true = is in cc

-- ---- its delivery

module _ (hd : Header) (n : Node) (ns : List Node) (j : ℕ) (f : Frame) (fs : List Frame) (at : at_place j fs ≡ Some f)
    (there : at_place f.to ns ≡ Some n) (known : is_node hd f.to ≡ true) (few : length fs ≤ most_frames) where
  abbrev marked : List Frame
  marked = set_place j (as_delivered f) fs

  -- the line is the one that the event asks for, whatever is sent before it
  abbrev IsAsked : Here → Type 0
  IsAsked h = (bs : List Body) (more : List Frame) → Told (behind_all h bs) (fs ++ more) ns → delivers (behind_all h bs) j h.event ≡ true

  abbrev input_of : Input
  input_of = input.Frame j f.from f.message

  module _ (h : Here) (header : h.header ≡ hd) (may : may_halt f.to h.event ≡ true) (asked : IsAsked h) (tells : Told h fs ns) where
    abbrev Leaves : List Effect → Node → Type 0
    Leaves outs x = Goes h (bodies f.to (length marked) outs) (frames_with marked (sends f.to outs)) (set_place f.to x ns)

    many : length marked ≤ most_frames
    many = let same = set_long j fs (as_delivered f) in omega (arith, few, same)

    is_up : is_some n.live ≡ true → IsUp hd f.to ns
    is_up up = record { node = n; there = there; up = up; number = known }

    first_asked : delivers h j h.event ≡ true
    first_asked = asked [] [] (subst (λ gs. Told h gs ns) (sym (append_none fs)) tells)
      where
        append_none : (xs : List Frame) → xs ++ [] ≡ xs
        append_none [] = refl
        append_none (x ∷ xs) = ap (λ (zs : List Frame). x ∷ zs) (append_none xs)

    -- a message is got where its node is up
    got_fits : (m : Message) → f.message ≡ Some m → is_some n.live ≡ true → frame_fits h (body.Got j) ≡ true
    got_fits m is up = and_all first_asked (tells.frames test j ∙ ap (frame_test test) at
        ∙ and_all (λ i. not (down i)) ((λ i. not (same_frame (carried_by (is i)) Junk)) ∙ (λ i. not (no_junk m i))))
      where
        test : ℕ → ℕ → FrameKind → Bool
        test from to carried = not (is_down h.start h.lines to) && not (same_frame carried Junk)

        down : is_down h.start h.lines f.to ≡ false
        down = tells.ups f.to n there ∙ ap not up

    got_told : Told (behind h (body.Got j)) marked ns
    got_told = got_tells h.start h.number h.lines fs ns j f at tells

    -- a frame is void where its node is down, and else where it may be
    void_fits : (bs : List Body) (more : List Frame) → Told (behind_all h bs) (fs ++ more) ns →
        (is_some n.live ≡ false) ⊎ (is_always_taken (carried_by f.message) ≡ false) → frame_fits (behind_all h bs) (body.Void j) ≡ true
    void_fits bs more t why =
        let g = behind_all h bs in
        and_all (subst (λ e. delivers g j e ≡ true) (sym (stays_behind h bs).event) (asked bs more t))
        (t.frames (test g) j ∙ ap (frame_test (test g)) (there_on j fs more f at) ∙ by why)
      where
        test : Here → ℕ → ℕ → FrameKind → Bool
        test g from to carried = is_down g.start g.lines to || not (is_always_taken carried)

        by : (is_some n.live ≡ false) ⊎ (is_always_taken (carried_by f.message) ≡ false) →
            (let g = behind_all h bs in is_down g.start g.lines f.to || not (is_always_taken (carried_by f.message))) ≡ true
        by (inl off) = or_first _ _ (t.ups f.to n there ∙ ap not off)
        by (inr other) = let g = behind_all h bs in or_last (is_down g.start g.lines f.to) _ (λ i. not (other i))

    -- a message that is taken
    got_done : (o : List Effect) (x : Node) (m : Message) → f.message ≡ Some m → is_some n.live ≡ true → is_some x.live ≡ true → Still o →
        AreFor hd (frames_with marked (sends f.to (Say (body.Got j) ∷ o))) → Leaves (Say (body.Got j) ∷ o) x
    got_done o x m is up on all for =
        left hd f.to n ns there known h (body.Got j ∷ bodies f.to (length marked) o) (frames_with marked (sends f.to o)) x (on ∙ sym up)
        (goes_first h (body.Got j) (bodies f.to (length marked) o) (frames_with marked (sends f.to o)) ns (got_fits m is up)
        (plain_goes hd f.to ns (is_up up) o (behind h (body.Got j)) marked header all many for got_told))

    -- one that is void
    void_done : (o : List Effect) (m : Message) → f.message ≡ Some m → is_some n.live ≡ true → may_be_void (Some m) ≡ true → Still o →
        AreFor hd (frames_with marked (sends f.to (o ++ Say (body.Void j) ∷ []))) → Leaves (o ++ Say (body.Void j) ∷ []) n
    void_done o m is up void all for =
        let sent = sends f.to o in
        let more = take (most_frames - length fs) sent in
        let gs = frames_with fs sent in
        let bs = bodies f.to (length fs) o in
        let g = plain_goes hd f.to ns (is_up up) o h fs header all few (for_set hd j gs f (there_on j fs more f at)
        (subst (AreFor hd) frames for)) tells in
        let i = behind_all h bs in
        let t = void_tells i.start i.number i.lines gs ns j f (there_on j fs more f at) g.tells in
        subst (λ ks. Goes h ks (frames_with marked (sends f.to (o ++ Say (body.Void j) ∷ []))) (set_place f.to n ns)) (sym lines)
        (subst (λ hs. Goes h (bs ++ body.Void j ∷ []) hs (set_place f.to n ns)) (sym frames)
        (left hd f.to n ns there known h (bs ++ body.Void j ∷ []) (set_place j (as_delivered f) gs) n refl
        (goes_both h bs (body.Void j ∷ []) gs (set_place j (as_delivered f) gs) ns ns g
        (goes_one i (body.Void j) (set_place j (as_delivered f) gs) ns
        (void_fits bs more g.tells (inr (subst (λ x. is_always_taken (carried_by x) ≡ false) (sym is) (void_kind m void)))) t))))
      where
        lines : bodies f.to (length marked) (o ++ Say (body.Void j) ∷ []) ≡ bodies f.to (length fs) o ++ body.Void j ∷ []
        lines = ap (λ l. bodies f.to l (o ++ Say (body.Void j) ∷ [])) (set_long j fs (as_delivered f)) ∙ bodies_said f.to (length fs) o
            (body.Void j)

        frames : frames_with marked (sends f.to (o ++ Say (body.Void j) ∷ [])) ≡ set_place j (as_delivered f)
            (frames_with fs (sends f.to o))
        frames = ap (frames_with marked) (sends_said f.to o (body.Void j))
            ∙ ap (λ l. marked ++ take (most_frames - l) (sends f.to o)) (set_long j fs (as_delivered f))
            ∙ sym (set_on j fs (take (most_frames - length fs) (sends f.to o)) f (as_delivered f) at)

    -- a frame that nobody reads
    unread_done : (is_some n.live ≡ false) ⊎ (f.message ≡ None) → Leaves (Say (body.Void j) ∷ []) n
    unread_done why = subst (λ gs. Goes h (body.Void j ∷ []) gs (set_place f.to n ns)) (sym (frames_none marked))
        (left hd f.to n ns there known h (body.Void j ∷ []) marked n refl (goes_one h (body.Void j) marked ns
        (void_fits [] [] (subst (λ gs. Told h gs ns) (sym (append_none fs)) tells) (by why))
        (void_tells h.start h.number h.lines fs ns j f at tells)))
      where
        append_none : (xs : List Frame) → xs ++ [] ≡ xs
        append_none [] = refl
        append_none (x ∷ xs) = ap (λ (zs : List Frame). x ∷ zs) (append_none xs)

        by : (is_some n.live ≡ false) ⊎ (f.message ≡ None) → (is_some n.live ≡ false) ⊎ (is_always_taken (carried_by f.message) ≡ false)
        by (inl off) = inl off
        by (inr none) = inr (ap (λ x. is_always_taken (carried_by x)) none)

    -- a stop falls behind its line
    got_cut : (c : ℕ) (how : Stop) (o : List Effect) (m : Message) → f.message ≡ Some m → is_some n.live ≡ true → Still o →
        (let q = cut c how (Say (body.Got j) ∷ o) n.disk in AreFor hd (frames_with marked (sends f.to (halted_outs f.to q))) →
        Leaves (halted_outs f.to q) (record n { disk = q.disk; live = None }))
    got_cut c how o m is up all = by c
      where
        after_got : (c : ℕ) → (let q = cut c how o n.disk in
            AreFor hd (frames_with marked (sends f.to (q.outs ++ Say (body.Halted f.to) ∷ []))) →
            Goes h (body.Got j ∷ bodies f.to (length marked) (q.outs ++ Say (body.Halted f.to) ∷ []))
            (frames_with marked (sends f.to (q.outs ++ Say (body.Halted f.to) ∷ [])))
            (set_place f.to (record n { disk = q.disk; live = None }) ns))
        after_got c for =
            let q = cut c how o n.disk in
            goes_first h (body.Got j) (bodies f.to (length marked) (q.outs ++ Say (body.Halted f.to) ∷ []))
            (frames_with marked (sends f.to (q.outs ++ Say (body.Halted f.to) ∷ [])))
            (set_place f.to (record n { disk = q.disk; live = None }) ns)
            (got_fits m is up)
            (cut_goes hd f.to n ns there known (behind h (body.Got j)) marked q.outs q.disk up may
            (λ all_for. plain_goes hd f.to ns (is_up up) q.outs (behind h (body.Got j)) marked header (cut_still c how o n.disk all) many
            all_for got_told)
            for)

        by : (c : ℕ) → (let q = cut c how (Say (body.Got j) ∷ o) n.disk in AreFor hd (frames_with marked (sends f.to (halted_outs f.to q)))
            →
            Leaves (halted_outs f.to q) (record n { disk = q.disk; live = None }))
        by zero = after_got zero
        by (suc c) = after_got (suc c)

    -- ---- a step

    none_refused : (o : Option Parts) → refusal_at hd input_of o ≡ None
    none_refused None = refl
    none_refused (Some t) = refl

    same_frame_is : (a b : ℕ) (x : Option Message) → input_of ≡ input.Frame a b x → (j ≡ a) × (f.message ≡ x)
    same_frame_is a b x is = (cc, cc)

    pub done : (s : Step) → Shape hd n input_of s → AreFor hd (frames_with marked (sends f.to s.outs)) → Leaves s.outs s.after
    done s (IsRefusal c is same) for = let no_way : None ≡ Some c = sym (none_refused n.live) ∙ is in cc
    done s (IsNothing other outs halting after) for = let no_way : true ≡ false = other in cc
    done s (IsPlain other up all same live) for = let no_way : true ≡ false = other in cc
    done s (IsGot a from m o is up all outs halting live) for =
        let e = same_frame_is a from (Some m) is in
        let these : s.outs ≡ Say (body.Got j) ∷ o = outs ∙ ap (λ i. Say (body.Got i) ∷ o) (sym e.0) in
        subst (λ es. Leaves es s.after) (sym these)
        (got_done o s.after m e.1 up live all (subst (λ es. AreFor hd (frames_with marked (sends f.to es))) these for))
    done s (IsVoid a from m o is up void all outs halting after) for =
        let e = same_frame_is a from (Some m) is in
        let these : s.outs ≡ o ++ Say (body.Void j) ∷ [] = outs ∙ ap (λ i. o ++ Say (body.Void i) ∷ []) (sym e.0) in
        subst (λ x. Leaves s.outs x) (sym after) (subst (λ es. Leaves es n) (sym these)
        (void_done o m e.1 up void all (subst (λ es. AreFor hd (frames_with marked (sends f.to es))) these for)))
    done s (IsUnread a from m is why outs halting after) for =
        let e = same_frame_is a from m is in
        let these : s.outs ≡ Say (body.Void j) ∷ [] = outs ∙ ap (λ i. Say (body.Void i) ∷ []) (sym e.0) in
        subst (λ x. Leaves s.outs x) (sym after) (subst (λ es. Leaves es n) (sym these) (unread_done (by why e.1)))
      where
        by : (is_some n.live ≡ false) ⊎ (m ≡ None) → f.message ≡ m → (is_some n.live ≡ false) ⊎ (f.message ≡ None)
        by (inl off) same = inl off
        by (inr none) same = inr (same ∙ none)
    done s (IsRestart inc o is off same all outs halting live) for = let no_way : true ≡ false = ap is_frame is in cc
    done s (IsCrash is up outs halting off) for = let no_way : true ≡ false = ap is_frame is in cc

    cut_got : (s : Step) (works : ℕ) (how : Stop) (es : List Effect) → s.halting ≡ es → (let q = cut (works - 1) how es n.disk in
        AreFor hd (frames_with marked (sends f.to (halted_outs f.to q))) → Leaves (halted_outs f.to q)
        (record n { disk = q.disk; live = None })) →
        (let q = cut (works - 1) how s.halting n.disk in AreFor hd (frames_with marked (sends f.to (halted_outs f.to q))) →
        Leaves (halted_outs f.to q) (record n { disk = q.disk; live = None }))
    cut_got s works how es same goes = subst (λ es. let q = cut (works - 1) how es n.disk in
        AreFor hd (frames_with marked (sends f.to (halted_outs f.to q))) → Leaves (halted_outs f.to q)
        (record n { disk = q.disk; live = None }))
        (sym same) goes

    pub cut_done : (s : Step) (works : ℕ) (how : Stop) → Shape hd n input_of s → 1 ≤ works → nat_lt (count_works s.halting) works ≡ false →
        (let q = cut (works - 1) how s.halting n.disk in AreFor hd (frames_with marked (sends f.to (halted_outs f.to q))) →
        Leaves (halted_outs f.to q) (record n { disk = q.disk; live = None }))
    cut_done s works how (IsRefusal c is same) some over for = let no_way : None ≡ Some c = sym (none_refused n.live) ∙ is in cc
    cut_done s works how (IsNothing other outs halting after) some over for = let no_way : true ≡ false = other in cc
    cut_done s works how (IsPlain other up all same live) some over for = let no_way : true ≡ false = other in cc
    cut_done s works how (IsGot a from m o is up all outs halting live) some over for =
        let e = same_frame_is a from (Some m) is in
        cut_got s works how (Say (body.Got j) ∷ o) (halting ∙ ap (λ i. Say (body.Got i) ∷ o) (sym e.0))
        (got_cut (works - 1) how o m e.1 up all) for
    cut_done s works how (IsVoid a from m o is up void all outs halting after) some over for =
        let e = same_frame_is a from (Some m) is in
        cut_got s works how (Say (body.Got j) ∷ o) (halting ∙ ap (λ i. Say (body.Got i) ∷ o) (sym e.0))
        (got_cut (works - 1) how o m e.1 up all) for
    cut_done s works how (IsUnread a from m is why outs halting after) some over for =
        absurd (idle works s.halting (ap count_works halting) some over)
    cut_done s works how (IsRestart inc o is off same all outs halting live) some over for = let no_way : true ≡ false = ap is_frame is in
        cc
    cut_done s works how (IsCrash is up outs halting off) some over for = let no_way : true ≡ false = ap is_frame is in cc
