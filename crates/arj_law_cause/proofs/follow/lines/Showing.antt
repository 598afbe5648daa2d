-- A show writes lines of its object alone, and sends nothing.
use Rattle.arj_law_parts.proofs.Words
use Words.{◌≡◌, ◌∙◌, ◌+◌, ◌-◌, ◌≤◌, ◌==◌, ◌&&◌, ◌||◌, ◌++◌, ℕ, zero, suc, Bool, true, false, cond, List, [], ◌∷◌, length, refl, sym, ap}
use Words.{subst, arith, nat_tests, Option, Some, None, list_all, and_parts, append_assoc, append-nil, map-append, nat_lt, at_number}
use Words.{at_place, Body, Disk, Stop, Effect, Say, Send, Do, Node, Parts, Step, Arm, World, Uid, ObjectState, Pair, Header, armed}
use Words.{bodies, count_works, copy_line, cut, disarmed, done_step, entry, entry_line, frames_with, halted_at, halted_outs, held_at}
use Words.{holder_of, is_up_at, most_frames, numbered, object, sends, show_all, show_entry, show_outs, show_up, shown, step, step_node}
use Words.{step_with, steps, worked}
use Words.body
use Words.input
use Rattle.arj_law_cause.proofs.follow.lines.Saying.{list_both}

-- the line shows what is held of the object
abbrev pub shows : ℕ → Body → Bool
shows x (body.Entry y v servers stores) = y == x
shows x (body.Copy n y v u payload) = y == x
shows x b = false

-- or that a node halts
abbrev pub shown_line : ℕ → Body → Bool
shown_line x (body.Halted n) = true
shown_line x b = shows x b

-- ---- effects that send nothing, and say such lines

abbrev is_shown : ℕ → Effect → Bool
is_shown x (Say b) = shown_line x b
is_shown x (Send to m) = false
is_shown x (Do w) = true

abbrev AreShown : ℕ → List Effect → Type 0
AreShown x es = list_all (is_shown x) es ≡ true

shown_bodies : (x n j : ℕ) (es : List Effect) → AreShown x es → list_all (shown_line x) (bodies n j es) ≡ true
shown_bodies x n j [] all = refl
shown_bodies x n j (Say b ∷ es) all =
    let p = and_parts (shown_line x b) (list_all (is_shown x) es) all in λ i. p.0 i && shown_bodies x n j es p.1 i
shown_bodies x n j (Do w ∷ es) all = shown_bodies x n j es all
shown_bodies x n j (Send to m ∷ es) all = absurd (cc all)

shown_sends : (x n : ℕ) (es : List Effect) → AreShown x es → sends n es ≡ []
shown_sends x n [] all = refl
shown_sends x n (Say b ∷ es) all = shown_sends x n es (and_parts (shown_line x b) (list_all (is_shown x) es) all).1
shown_sends x n (Do w ∷ es) all = shown_sends x n es all
shown_sends x n (Send to m ∷ es) all = absurd (cc all)

shown_cut : (x c : ℕ) (how : Stop) (es : List Effect) (d : Disk) → AreShown x es → AreShown x (cut c how es d).outs
shown_cut x c how [] d all = refl
shown_cut x zero how (Do w ∷ es) d all = refl
shown_cut x (suc c) how (Do w ∷ es) d all = shown_cut x c how es (worked w d) all
shown_cut x zero how (Say b ∷ es) d all =
    let p = and_parts (shown_line x b) (list_all (is_shown x) es) all in λ i. p.0 i && shown_cut x zero how es d p.1 i
shown_cut x (suc c) how (Say b ∷ es) d all =
    let p = and_parts (shown_line x b) (list_all (is_shown x) es) all in λ i. p.0 i && shown_cut x (suc c) how es d p.1 i
shown_cut x zero how (Send to m ∷ es) d all = absurd (cc all)
shown_cut x (suc c) how (Send to m ∷ es) d all = absurd (cc all)

both : (x : ℕ) (es fs : List Effect) → AreShown x es → AreShown x fs → AreShown x (es ++ fs)
both x es fs a b = list_both (is_shown x) es fs a b

-- what a node shows
outs_shown : (n x : ℕ) (d : Disk) → AreShown x (show_outs n x d)
outs_shown n x d = both x (show_entry n x d.names) (shown (copy_line n x) (object x) d.store (holder_of (object x) d.store))
    (at_naming (n == 1)) (each (copy_line n x) (object x) d.store copy)
  where
    itself : (x == x) ≡ true
    itself = grind (arith, nat_tests)

    copy : (s : Option ObjectState) → AreShown x (copy_line n x s)
    copy None = refl
    copy (Some s) = λ i. itself i && true

    line : (s : Option ObjectState) → AreShown x (entry_line x s)
    line None = refl
    line (Some s) = λ i. itself i && true

    each : (f : Option ObjectState → List Effect) (u : Uid) (p : Pair) → ((s : Option ObjectState) → AreShown x (f s)) →
        AreShown x (shown f u p (holder_of u p))
    each f u p so = by (holder_of u p)
      where
        by : (o : Option Uid) → AreShown x (shown f u p o)
        by (Some holder) = refl
        by None = so (held_at u p)

    at_naming : (b : Bool) → AreShown x (cond b (shown (entry_line x) (entry x) d.names (holder_of (entry x) d.names)) [])
    at_naming true = each (entry_line x) (entry x) d.names line
    at_naming false = refl

-- a step of a node that is up, or none
step_shown : (hd : Header) (n : Node) (x : ℕ) → AreShown x (step hd n (input.Show x)).outs × AreShown x (step hd n (input.Show x)).halting
step_shown hd n x = by n.live refl
  where
    So : Step → Type 0
    So s = AreShown x s.outs × AreShown x s.halting

    by : (o : Option Parts) → n.live ≡ o → So (step hd n (input.Show x))
    by None is = subst So (sym (ap (input.step_unless hd (input.Show x) n) (ap (input.refusal_at hd (input.Show x)) is)
        ∙ ap (input.step_of hd (input.Show x) n) is)) (refl, refl)
    by (Some t) is = subst So (sym (ap (input.step_unless hd (input.Show x) n) (ap (input.refusal_at hd (input.Show x)) is)
        ∙ ap (input.step_of hd (input.Show x) n) is)) (outs_shown n.number x n.disk, outs_shown n.number x n.disk)

-- ---- in the world

-- lines that show, while no frame is sent
pub record Shows (x : ℕ) (w v : World) : Type 0 where
  pub added : List Body
  pub lines : v.lines ≡ w.lines ++ numbered w.event added
  pub event : v.event ≡ w.event
  pub has : list_all (shown_line x) added ≡ true
  pub frames : v.frames ≡ w.frames
  pub full : v.full ≡ w.full

none : (x : ℕ) (w : World) → Shows x w w
none x w = record { added = []; lines = sym (append-nil w.lines); event = refl; has = refl; frames = refl; full = refl }

then : (x : ℕ) (w v u : World) → Shows x w v → Shows x v u → Shows x w u
then x w v u a b = record {
  added = a.added ++ b.added;
  lines = b.lines ∙ (λ i. a.lines i ++ numbered (a.event i) b.added) ∙ append_assoc w.lines (numbered w.event a.added)
      (numbered w.event b.added)
      ∙ ap (λ ls. w.lines ++ ls) (sym (map-append (λ (c : Body). record { event = w.event; body = c }) a.added b.added));
  event = b.event ∙ a.event;
  has = list_both (shown_line x) a.added b.added a.has b.has;
  frames = b.frames ∙ a.frames;
  full = b.full ∙ a.full;
}

module _ (x k : ℕ) (w : World) (few : length w.frames ≤ most_frames) where
  fits : nat_lt most_frames (length w.frames + 0) ≡ false
  fits = by (length w.frames) few
    where
      by : (m : ℕ) → m ≤ most_frames → nat_lt most_frames (m + 0) ≡ false
      by m few = grind (arith, nat_tests, few)

  or_none : (b : Bool) → (b || false) ≡ b
  or_none true = refl
  or_none false = refl

  -- effects that send nothing
  put_shown : (outs : List Effect) (v : World) → v.lines ≡ w.lines → v.event ≡ w.event → v.frames ≡ w.frames → v.full ≡ w.full →
      AreShown x outs → Shows x w (Words.put k outs v)
  put_shown outs v lines event same full all = record {
    added = bodies k (length v.frames) outs;
    lines = λ i. lines i ++ numbered (event i) (bodies k (length v.frames) outs);
    event = event;
    has = shown_bodies x k (length v.frames) outs all;
    frames = ap (frames_with v.frames) (shown_sends x k outs all) ∙ no_frames v.frames ∙ same;
    full = (λ i. full i || nat_lt most_frames (length (same i) + length (shown_sends x k outs all i))) ∙ (λ i. w.full || fits i)
        ∙ or_none w.full;
  }
    where
      no_frames : (fs : List Words.Frame) → frames_with fs [] ≡ fs
      no_frames fs = ap (λ gs. fs ++ gs) (take_none (most_frames - length fs)) ∙ append-nil fs
        where
          take_none : (m : ℕ) → Words.take {A = Words.Frame} m [] ≡ []
          take_none zero = refl
          take_none (suc m) = refl

  step_so : (n : Node) (s : Step) → AreShown x s.outs × AreShown x s.halting → (o : Option Arm) → Shows x w (step_with k n s w o)
  step_so n s all None = put_shown s.outs (Words.set_node k s.after w) refl refl refl refl all.0
  step_so n s all (Some a) = by (nat_lt (count_works s.halting) a.works)
    where
      by : (b : Bool) → Shows x w (cond b (done_step k s (armed k (record a { works = a.works - count_works s.halting }) w))
          (halted_at k n (cut (a.works - 1) a.how s.halting n.disk) (disarmed k w)))
      by true = put_shown s.outs (Words.set_node k s.after (armed k
          (record a { works = a.works - count_works s.halting }) w)) refl refl refl refl
          all.0
      by false =
          let c = cut (a.works - 1) a.how s.halting n.disk in
          put_shown (halted_outs k c) (Words.set_node k (record n { disk = c.disk; live = None }) (disarmed k w)) refl refl refl refl
          (both x c.outs (Say (body.Halted k) ∷ []) (shown_cut x (a.works - 1) a.how s.halting n.disk all.1) refl)

shows_one : (x k : ℕ) (w : World) → length w.frames ≤ most_frames → Shows x w (show_up x k w)
shows_one x k w few = by (is_up_at k w)
  where
    at : (o : Option Node) → Shows x w (step_node k (input.Show x) w o)
    at None = none x w
    at (Some n) = step_so x k w few n (step w.header n (input.Show x)) (step_shown w.header n x) (at_number k w.arms)

    by : (b : Bool) → Shows x w (cond b (steps k (input.Show x) w) w)
    by true = at (at_place k w.nodes)
    by false = none x w

pub shows_all : (x : ℕ) (ns : List ℕ) (w : World) → length w.frames ≤ most_frames → Shows x w (show_all x ns w)
shows_all x [] w few = none x w
shows_all x (k ∷ ns) w few =
    let one = shows_one x k w few in
    then x w (show_up x k w) (show_all x ns (show_up x k w)) one
    (shows_all x ns (show_up x k w) (subst (λ fs. length fs ≤ most_frames) (sym one.frames) few))
