-- For each line that says that an action committed: what is seen where its coordinator is at it, and what is seen once it has said so. Both
-- are reached, only quiet lines stand behind it then, no store has done anything, and what stores have prepared may be pending. So it is
-- in a step of a node, of which it is known which frame it takes.
use Rattle.arj_law_parts.proofs.Words
use Words.{⊤, ◌≡◌, ◌∙◌, ◌+◌, ◌==◌, ◌++◌, ◌&&◌, ◌≤◌, ℕ, Bool, true, false, cond, if◌then◌else◌, List, [], ◌∷◌, Option, Some, refl, sym, ap}
use Words.{subst, append-nil, append_assoc, arith, eqb-true, is_prepared, length, length-append, AllByRecursion, and_parts, list_all, Body}
use Words.{Header, Label, Line, Message, Pair, Uid}
use Words.{Disk, Do, Effect, Say, Send, Work, PutIntent, worked, Parts, Took, handle, with_coord, Node, again_all}
use Words.{acts as does}
use Words.{begin_action, parent_of, parts_in, restart_outs, tick_outs, frame_kind, is_serial, numbered, Post, Seen}
use Words.body
use Words.frame
use Rattle.arj_law_lock_view.proofs.Terms.{same_number}
use Rattle.arj_law_parts.proofs.moves.{Flat.post, Happens.Wide, Happens.wide_steps, Together.with_both}
use Rattle.arj_law_parts.specs.moves.Keeps.{IsAtStarts}
use Rattle.arj_law_parts.specs.moves.Moments.{Moment, asks_now, fits, framed_if, given, posted, said, sent, up}
use Rattle.arj_law_parts.specs.moves.Seen as seen
use Rattle.arj_law_parts.specs.moves.Seen.{is_quiet_line}
use Rattle.arj_law_parts.specs.moves.With.{ArePlain, KeepsSteps, UpWith, WalksWith, is_plain_line}
use Rattle.arj_model.specs.CausePends.{is_crash_at}
use Rattle.arj_model.specs.Past.{Asked as AskedOf}
use Rattle.std.specs.Prelude.{drop}
use Rattle.arj_law_cause.proofs.confirm.Reached.{Reached, reached_kept}
use Rattle.arj_law_cause.proofs.rows.Pends.{Pends}
use Rattle.arj_law_cause.proofs.rows.Stops.{are_own}
use Rattle.arj_law_cause.proofs.rows.Watches.{in_step, may_front}
use Rattle.arj_law_cause.proofs.rows.Watching.{Watched, watched_steps}
use Rattle.arj_law_cause.proofs.stores.Shapes
use Shapes.{AreFront, AreSends, Commits, Goes, IsRecord, Rests, Shaped, acts_shape, goes, heard_shape, parts_go}
use Rattle.arj_law_cause.proofs.waits.commits.Serving as Serving
use Rattle.arj_law_cause.proofs.waits.commits.Serving.{IsQuiet, goes_so, naming_quiet, quiet_plain, restart_still, tick_still}
use Rattle.arj_law_cause.proofs.waits.lost.Bound.{steps_both}

-- ---- a line

-- only quiet lines
abbrev pub AreCalm : List Line → Type 0
AreCalm lines = AllByRecursion (λ (k : Line). is_quiet_line k.body ≡ true) lines

-- Behind these lines this one was said, and these came behind it: by a coordinator that was up behind a front of the former, and what was
-- seen then, and once it had said so, was reached. What stores have prepared then may be pending, where these events were accepted.
pub record IsSaidThen (A : List AskedOf) (hd : Header) (before : List Line) (line : Line) (behind : List Line) : Type 0 where
  pub first : Seen
  pub was : Reached hd first
  pub more : List Line
  pub until : before ≡ first.lines ++ more
  pub now : Seen
  pub reached : Reached hd now
  pub calm : List Line
  pub quiet : AreCalm calm
  pub rest : List Line
  pub lines : now.lines ≡ before ++ line ∷ calm
  pub behind_is : behind ≡ calm ++ rest
  pub start : now.start ≡ first.start
  pub stores : (s : ℕ) (n : Node) → now.nodes s ≡ Some n →
      (m : Node) × (first.nodes s ≡ Some m) × ((let d = m.disk in d.store) ≡ (let d = n.disk in d.store))
  pub pend : (s : ℕ) (n : Node) (u : Uid) → now.nodes s ≡ Some n → is_prepared u (let d = n.disk in d.store) ≡ true → Pends A now.lines s u

-- so it is of each line that says that an action committed
abbrev pub AreSaid : List AskedOf → Header → List Line → List Line → Type 0
AreSaid A hd before [] = ⊤
AreSaid A hd before (l ∷ ls) =
    ((k : Label) → l.body ≡ body.Committed k → IsSaidThen A hd before l ls) × AreSaid A hd (before ++ l ∷ []) ls

module _ (A : List AskedOf) (hd : Header) where
  further : (before : List Line) (line : Line) (behind more : List Line) → IsSaidThen A hd before line behind →
      IsSaidThen A hd before line (behind ++ more)
  further before line behind more t = record {
    first = t.first;
    was = t.was;
    more = t.more;
    until = t.until;
    now = t.now;
    reached = t.reached;
    calm = t.calm;
    quiet = t.quiet;
    rest = t.rest ++ more;
    lines = t.lines;
    behind_is = ap (λ ls. ls ++ more) t.behind_is ∙ append_assoc t.calm t.rest more;
    start = t.start;
    stores = t.stores;
    pend = t.pend;
  }

  said_both : (before xs ys : List Line) → AreSaid A hd before xs → AreSaid A hd (before ++ xs) ys → AreSaid A hd before (xs ++ ys)
  said_both before [] ys a b = subst (λ ls. AreSaid A hd ls ys) (append-nil before) b
  said_both before (x ∷ xs) ys a b = (
    (λ k is. further before x xs ys (a.0 k is)),
    said_both (before ++ x ∷ []) xs ys a.1 (subst (λ ls. AreSaid A hd ls ys) (sym (append_assoc before (x ∷ []) xs)) b),
  )

  pub said_at : (before xs : List Line) (line : Line) (ys : List Line) → AreSaid A hd before (xs ++ line ∷ ys) → (k : Label) →
      line.body ≡ body.Committed k → IsSaidThen A hd (before ++ xs) line ys
  said_at before [] line ys a k is = subst (λ ls. IsSaidThen A hd ls line ys) (sym (append-nil before)) (a.0 k is)
  said_at before (x ∷ xs) line ys a k is =
      subst (λ ls. IsSaidThen A hd ls line ys) (append_assoc before (x ∷ []) xs) (said_at (before ++ x ∷ []) xs line ys a.1 k is)

  -- no line of these says so
  mute_lines : (before : List Line) (e : ℕ) (bs : List Body) → list_all goes bs ≡ true → AreSaid A hd before (numbered e bs)
  mute_lines before e [] all = tt
  mute_lines before e (b ∷ bs) all =
      let p = and_parts (goes b) (list_all goes bs) all in (
        (λ k is. let no_way : false ≡ true = sym (ap goes is) ∙ p.0 in absurd (cc no_way)),
        mute_lines (before ++ record { event = e; body = b } ∷ []) e bs p.1,
      )

  -- nor of more
  pub mute_more : (ls : List Line) (e : ℕ) (bs : List Body) → list_all goes bs ≡ true → AreSaid A hd [] ls →
      AreSaid A hd [] (ls ++ numbered e bs)
  mute_more ls e bs all h = said_both [] ls (numbered e bs) h (mute_lines ls e bs all)

  calm_said : (before ls : List Line) → AreCalm ls → AreSaid A hd before ls
  calm_said before [] all = tt
  calm_said before (l ∷ ls) all = (
    (λ k is. let no_way : false ≡ true = sym (ap is_quiet_line is) ∙ all.0 in absurd (cc no_way)),
    calm_said (before ++ l ∷ []) ls all.1,
  )

calm_both : (xs ys : List Line) → AreCalm xs → AreCalm ys → AreCalm (xs ++ ys)
calm_both [] ys a b = b
calm_both (x ∷ xs) ys a b = (a.0, calm_both xs ys a.1 b)

quiet_goes : (b : Body) → is_quiet_line b ≡ true → goes b ≡ true
quiet_goes (body.Committed l) is = absurd (cc is)
quiet_goes b is = refl

pub quiet_all : (bs : List Body) → list_all is_quiet_line bs ≡ true → list_all goes bs ≡ true
quiet_all [] all = refl
quiet_all (b ∷ bs) all =
    let p = and_parts (is_quiet_line b) (list_all is_quiet_line bs) all in λ i. quiet_goes b p.0 i && quiet_all bs p.1 i

-- ---- moments

-- what a message that is sent changes
record Sends (M N : Moment) : Type 0 where
  lines : List Line
  calm : AreCalm lines
  are : N.seen.lines ≡ M.seen.lines ++ lines
  nodes : N.seen.nodes ≡ M.seen.nodes
  start : N.seen.start ≡ M.seen.start

sends : (p : Post) (M : Moment) → Sends M (sent p M)
sends p M = by (p.to == p.from) (fits M)
  where
    by : (self fit : Bool) → Sends M (if self then posted p M else framed_if fit p M)
    by true fit = record { lines = []; calm = tt; are = sym (append-nil M.seen.lines); nodes = refl; start = refl }
    by false true = record {
      lines = numbered M.past.number (body.Sent (M.past.frames + 1) p.from p.to (frame_kind p.message) ∷ []);
      calm = (refl, tt);
      are = refl;
      nodes = refl;
      start = refl;
    }
    by false false = record { lines = []; calm = tt; are = sym (append-nil M.seen.lines); nodes = refl; start = refl }

-- ---- in a step

-- This node takes this frame in this event, in which it doesn't crash, and so many lines come before its own, as in `in_step`.
module _ (A : List AskedOf) (hd : Header) (me turn long : ℕ) (took sender : Option ℕ) (alive : is_crash_at A me turn ≡ false) where
  abbrev pub May : List Line → Type 0
  May ls = are_own me turn took (drop long ls) ≡ true

  -- so it is of these lines, where those of the step are the node's
  abbrev pub AreSaidSo : List Line → Type 0
  AreSaidSo ls = (long ≤ length ls) × (May ls → AreSaid A hd [] ls)

  abbrev pub LinesSaid : Moment → Type 0
  LinesSaid M = AreSaidSo M.seen.lines

  more_said : (ls ms : List Line) → AreSaid A hd ls ms → AreSaidSo ls → AreSaidSo (ls ++ ms)
  more_said ls ms new h = (
    (let both = length-append ls ms in let few = h.0 in omega (arith, both, few)),
    λ may. said_both A hd [] ls ms (h.1 (may_front me turn long took ls ms h.0 may)) new,
  )

  mute : (bs : List Body) (M : Moment) → list_all goes bs ≡ true → LinesSaid M → LinesSaid (said bs M)
  mute bs M all h = more_said M.seen.lines (numbered M.past.number bs) (mute_lines A hd M.seen.lines M.past.number bs all) h

  sent_said : (p : Post) (M : Moment) → LinesSaid M → LinesSaid (sent p M)
  sent_said p M h = let s = sends p M in subst AreSaidSo (sym s.are)
      (more_said M.seen.lines s.lines (calm_said A hd M.seen.lines s.lines s.calm) h)

  module _ (k : ℕ) (v : Parts) where
    goes_walk : (outs : List Effect) (d : Disk) (M : Moment) → Goes outs → LinesSaid M →
        WalksWith LinesSaid k outs (UpWith LinesSaid k v) d M
    goes_walk [] d M all h = h
    goes_walk (Do w ∷ es) d M all h = ((λ how. mute (body.Halted k ∷ []) M refl h), goes_walk es (worked w d) M all.1 h)
    goes_walk (Say b ∷ es) d M all h = goes_walk es d (said (b ∷ []) M) all.1 (mute (b ∷ []) M (λ i. all.0 i && true) h)
    goes_walk (Send to m ∷ es) d M all h = goes_walk es d (sent (post k to m) M) all.1 (sent_said (post k to m) M h)

  -- ---- an action commits

  -- what is known at each moment besides
  abbrev pub Base : Moment → Type 0
  Base M = Watched A (in_step A me turn long took sender alive) M × Wide (Reached hd) M

  -- what is seen as a coordinator at node k goes on: its disk's store is as it was, and so are the other nodes
  record SoFar (first : Seen) (k : ℕ) (store : Pair) (M : Moment) : Type 0 where
    more : List Line
    until : M.seen.lines ≡ first.lines ++ more
    start : M.seen.start ≡ first.start
    own : (m : Node) × (first.nodes k ≡ Some m) × ((let d = m.disk in d.store) ≡ store)
    others : (s : ℕ) → (s == k) ≡ false → M.seen.nodes s ≡ first.nodes s

  -- with more lines
  so_far : (first : Seen) (k : ℕ) (store : Pair) (M N : Moment) (ls : List Line) → N.seen.lines ≡ M.seen.lines ++ ls →
      N.seen.nodes ≡ M.seen.nodes → N.seen.start ≡ M.seen.start → SoFar first k store M → SoFar first k store N
  so_far first k store M N ls lines nodes start f = record {
    more = f.more ++ ls;
    until = lines ∙ ap (λ xs. xs ++ ls) f.until ∙ append_assoc first.lines f.more ls;
    start = start ∙ f.start;
    own = f.own;
    others = λ s off. ap (λ (g : ℕ → Option Node). g s) nodes ∙ f.others s off;
  }

  module _ (k : ℕ) (v : Parts) (first : Seen) (was : Reached hd first) where
    -- behind the line messages go
    sends_walk : (es : List Effect) (d : Disk) (M : Moment) (before more : List Line) (line : Line) (calm : List Line) → AreSends es →
        before ≡ first.lines ++ more → M.seen.lines ≡ before ++ line ∷ calm → AreCalm calm → SoFar first k d.store M →
        AreSaidSo before → WalksWith Base k es (UpWith Base k v) d M → WalksWith LinesSaid k es (UpWith LinesSaid k v) d M
    sends_walk [] d M before more line calm all until lines quiet f early base = (
      subst (λ ls. long ≤ length ls) (sym lines) (let both = length-append before (line ∷ calm) in let few = early.0 in
          omega (arith, both, few)),
      λ may. subst (AreSaid A hd []) (sym lines) (said_both A hd [] before (line ∷ calm)
          (early.1 (may_front me turn long took before (line ∷ calm) early.0 (subst May lines may))) (
            (λ l is. record {
              first = first;
              was = was;
              more = more;
              until = until;
              now = seen.with_sent base.1.0 (let N = up k d v M in N.seen);
              reached = base.1.2;
              calm = calm;
              quiet = quiet;
              rest = [];
              lines = lines;
              behind_is = sym (append-nil calm);
              start = f.start;
              stores = λ s n is. there s (s == k) refl n is;
              pend = λ s n u is held. (base.0.1.1 may).1 s n u is tt held;
            }),
            calm_said A hd (before ++ line ∷ []) calm quiet,
          )),
    )
      where
        mine : Node
        mine = record { number = k; disk = d; live = Some v }

        there : (s : ℕ) (b : Bool) → (s == k) ≡ b → (n : Node) →
            cond b (Some (record { number = k; disk = d; live = Some v })) (M.seen.nodes s) ≡ Some n →
            (m : Node) × (first.nodes s ≡ Some m) × ((let d = m.disk in d.store) ≡ (let d = n.disk in d.store))
        there s true same n is =
            let o = f.own in
            let it : record { number = k; disk = d; live = Some v } ≡ n = (let z : ◌≡◌ {A = Option Node}
            (Some (record { number = k; disk = d; live = Some v })) (Some n) = is in cc z) in
            (o.0, ap first.nodes (eqb-true s k same) ∙ o.1, o.2 ∙ ap (λ (z : Node). let d = z.disk in d.store) it)
        there s false off n is = (n, sym (f.others s off) ∙ is, refl)
    sends_walk (Send to m ∷ es) d M before more line calm all until lines quiet f early base =
        let s = sends (post k to m) M in
        sends_walk es d (sent (post k to m) M) before more line (calm ++ s.lines) all.1 until
        (s.are ∙ ap (λ ls. ls ++ s.lines) lines ∙ append_assoc before (line ∷ calm) s.lines) (calm_both calm s.lines quiet s.calm)
        (so_far first k d.store M (sent (post k to m) M) s.lines s.are s.nodes s.start f) early base
    sends_walk (Say b ∷ es) d M before more line calm all until lines quiet f early base = absurd all.0
    sends_walk (Do w ∷ es) d M before more line calm all until lines quiet f early base = absurd all.0

    -- before it other lines, and the record
    front_walk : (front behind : List Effect) (l : Label) (d : Disk) (M : Moment) → AreFront front → AreSends behind →
        SoFar first k d.store M → LinesSaid M →
        WalksWith Base k (front ++ Say (body.Committed l) ∷ behind) (UpWith Base k v) d M →
        WalksWith LinesSaid k (front ++ Say (body.Committed l) ∷ behind) (UpWith LinesSaid k v) d M
    front_walk [] behind l d M lined sends f h base =
        let line : Line = record { event = M.past.number; body = body.Committed l } in
        sends_walk behind d (said (body.Committed l ∷ []) M) M.seen.lines f.more line [] sends f.until refl tt
        (so_far first k d.store M (said (body.Committed l ∷ []) M) (line ∷ []) refl refl refl f) h base
    front_walk (Say b ∷ es) behind l d M lined sends f h base =
        front_walk es behind l d (said (b ∷ []) M) lined.1 sends
        (so_far first k d.store M (said (b ∷ []) M) (numbered M.past.number (b ∷ [])) refl refl refl f)
        (mute (b ∷ []) M (λ i. lined.0 i && true) h) base
    front_walk (Do w ∷ es) behind l d M lined sends f h base = (
      (λ how. mute (body.Halted k ∷ []) M refl h),
      front_walk es behind l (worked w d) M lined.1 sends (same w lined.0) h base.1,
    )
      where
        same : (x : Work) → IsRecord x → SoFar first k (let c = worked x d in c.store) M
        same (PutIntent u i) is = f
        same Words.Look is = absurd is
        same (Words.PutInc i) is = absurd is
        same (Words.RemoveIntent u) is = absurd is
        same (Words.Prepare r u states) is = absurd is
        same (Words.Commit r u) is = absurd is
        same (Words.Abort r u) is = absurd is
    front_walk (Send to m ∷ es) behind l d M lined sends f h base = absurd lined.0

  -- a coordinator's effects
  shaped_walk : (k : ℕ) (t v : Parts) (outs : List Effect) (d : Disk) (M : Moment) → Shaped outs → Base (up k d t M) → LinesSaid M →
      WalksWith Base k outs (UpWith Base k v) d M → WalksWith LinesSaid k outs (UpWith LinesSaid k v) d M
  shaped_walk k t v outs d M (Rests all) now h base = goes_walk k v outs d M all h
  shaped_walk k t v outs d M (Commits front behind l lined sends are) now h base =
      subst (λ es. WalksWith LinesSaid k es (UpWith LinesSaid k v) d M) (sym are)
      (front_walk k v (seen.with_sent now.1.0 (let N = up k d t M in N.seen)) now.1.2 front behind l d M lined sends (record {
        more = [];
        until = sym (append-nil M.seen.lines);
        start = refl;
        own = (
          record { number = k; disk = d; live = Some t },
          (λ i. cond (same_number k i) (Some (record { number = k; disk = d; live = Some t })) (M.seen.nodes k)),
          refl,
        );
        others = λ s off. sym (λ i. cond (off i) (Some (record { number = k; disk = d; live = Some t })) (M.seen.nodes s));
      }) h (subst (λ es. WalksWith Base k es (UpWith Base k v) d M) are base))

  -- ---- whatever the node does

  plain_lines : (bs : List Body) → ArePlain bs → list_all goes bs ≡ true
  plain_lines [] all = refl
  plain_lines (b ∷ bs) all = let z = and_parts (is_plain_line b) (list_all is_plain_line bs) all in
      λ i. one b z.0 i && plain_lines bs z.1 i
    where
      one : (b : Body) → is_plain_line b ≡ true → goes b ≡ true
      one (body.Committed l) is = absurd (cc is)
      one b is = refl

  message_shape : (k : ℕ) (d : Disk) (t v : Parts) (from : ℕ) (m : Message) (outs : List Effect) → handle k d t from m ≡ Took v outs →
      Shaped outs
  message_shape k d t v from m outs is =
      subst (Serving.GoesSo (IsQuiet goes) (quiet_plain goes parts_go) Shaped (λ es all. Rests all) k d t
      (λ n at. naming_quiet goes parts_go d.names n) from) is
      (goes_so (IsQuiet goes) (quiet_plain goes parts_go) Shaped (λ es all. Rests all) k d t
      (λ n at. naming_quiet goes parts_go d.names n) from m (λ a r says. heard_shape from a r d.intents t.coord))

  base_steps : KeepsSteps hd Base
  base_steps = steps_both hd (Watched A (in_step A me turn long took sender alive)) (Wide (Reached hd))
      (watched_steps A (in_step A me turn long took sender alive) hd)
      (wide_steps hd (IsAtStarts hd (Reached hd)) (Reached hd) (reached_kept hd))

  -- what is watched, what is reached, and of each line that says that an action committed what was seen then
  abbrev pub Kept : Moment → Type 0
  Kept M = Base M × LinesSaid M

  pub kept_steps : KeepsSteps hd Kept
  kept_steps = let keeps = base_steps in record {
    quiet = λ bs M plain h. (keeps.quiet bs M plain h.0, mute bs M (plain_lines bs plain) h.1);
    junk = λ n M fit h. (keeps.junk n M fit h.0, mute (body.Sent (M.past.frames + 1) 0 n frame.Junk ∷ []) M refl h.1);
    stop = λ k d live M h. (keeps.stop k d live M h.0, mute (body.Halted k ∷ []) M refl h.1);
    message = λ k d t v from m outs M h there meant may is.
        let base = keeps.message k d t v from m outs M h.0 there meant may is in
        with_both Base LinesSaid k outs (UpWith Base k v) (UpWith LinesSaid k v) d M base
        (shaped_walk k t v outs d M (message_shape k d t v from m outs is) h.0 h.1 base);
    act = λ k d t i M is brings fresh asks free h. let did = does i d.intents t.coord in
        let base = keeps.act k d t i M is brings fresh asks free h.0 in
        with_both Base LinesSaid k did.outs (UpWith Base k (with_coord t did.part))
        (UpWith LinesSaid k (with_coord t did.part)) d
        (asks_now i t.coord M) base
        (shaped_walk k t (with_coord t did.part) did.outs d (asks_now i t.coord M) (acts_shape i d.intents t.coord is) h.0 h.1 base);
    begin = λ k d t l how parent M brings fresh new gives none h.
        let did = begin_action l how parent (parent_of parent t.coord) t.coord in
        let N = given l (record { node = k; serial = is_serial how }) M in
        with_both Base LinesSaid k did.outs (UpWith Base k (with_coord t did.part))
        (UpWith LinesSaid k (with_coord t did.part)) d
        N (keeps.begin k d t l how parent M brings fresh new gives none h.0)
        (goes_walk k (with_coord t did.part) did.outs d N (refl, tt) h.1);
    tick = λ k d t M h. let r = again_all t.coord.doings t.coord in
        let outs = tick_outs (record { number = k; disk = d; live = Some t }) t in
        with_both Base LinesSaid k outs (UpWith Base k (with_coord t r.part)) (UpWith LinesSaid k (with_coord t r.part)) d M
        (keeps.tick k d t M h.0)
        (goes_walk k (with_coord t r.part) outs d M (tick_still (IsQuiet goes) (quiet_plain goes parts_go) k d t) h.1);
    restart = λ k d M now fresh h. let outs = restart_outs hd k (d.inc + 1) d in let v = parts_in k (d.inc + 1) d in
        with_both Base LinesSaid k outs (UpWith Base k v) (UpWith LinesSaid k v) d M (keeps.restart k d M now fresh h.0)
        (goes_walk k v outs d M (restart_still (IsQuiet goes) (quiet_plain goes parts_go) hd k (d.inc + 1) d) h.1);
  }
