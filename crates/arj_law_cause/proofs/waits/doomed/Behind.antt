-- Each request of a commit that went to another node has its line behind the call of the commit.
use Rattle.arj_law_parts.proofs.Words
use Words.{◌≡◌, ◌⊎◌, ◌∙◌, ◌+◌, ◌++◌, ◌==◌, ⊤, ℕ, Bool, true, false, if◌then◌else◌, List, [], ◌∷◌, Some, refl, sym, ap, subst}
use Words.{inl, inr, ⊎_elim, append_assoc, eqb-true, AllByRecursion, Ask, Body, Head, Header, Line, Uid, asks, actor, frame_kind}
use Words.{again_all, begin_action, tick_outs, Do, Disk, Effect, Say, Send, worked, Parts, with_coord, acts, Calling, Committing}
use Words.{Idle, Now, Goal, At, AtActivate, AtBind, AtInvoke, AtLoad, AtNote, ask_at, parent_of, parts_in}
use Words.{restart_outs, is_serial, numbered, Post}
use Words.ask
use Words.body
use Words.commit
use Words.frame
use Rattle.arj_law_parts.proofs.moves.{Flat.post, Happens.Wide, Together.with_both}
use Rattle.arj_law_parts.specs.moves.Moments.{Moment, asks_now, fits, framed_if, given, posted, said, sent, up}
use Rattle.arj_law_parts.specs.moves.Seen.{In}
use Rattle.arj_law_parts.specs.moves.Seen as seen
use Rattle.arj_law_parts.specs.moves.With.{KeepsAll, UpWith, WalksWith}
use Rattle.arj_law_promise.proofs.meant.Posts.{act_sends, message_sends, tick_sends}
use Rattle.arj_law_promise.proofs.waiting.Serving.{restart_asks}
use Rattle.arj_law_runs.proofs.calls.CoordSends.{AllSo, IsSentBy}
use Rattle.arj_law_runs.specs.calls.Coords.{bare}
use Rattle.arj_law_serial.proofs.joint.{CommitCalls.NoCall, CommitCalls.end_quiet, CommitCalls.marks_quiet, CommitCalls.no_call}
use Rattle.arj_law_serial.proofs.whole.CalledSays.{message_fine, restart_fine, tick_fine}
use Rattle.arj_law_cause.proofs.confirm.Called.{Based, Calls, Quiet, act_calls, based_so, called_back, called_more, is_called, under_way}
use Rattle.arj_law_cause.proofs.kinds.Nodes.{wide_all}

-- ---- requests

-- the request is one of a commit
abbrev pub is_of_commit : Ask → Bool
is_of_commit (ask.Vote i ties ends) = true
is_of_commit (ask.Prepare states) = true
is_of_commit (ask.Confirm grants excluded included) = true
is_of_commit a = false

-- its frame's line stands behind the call of the action's commit
pub record IsBehind (lines : List Line) (p : Post) (u : Uid) : Type 0 where
  pub before : List Line
  pub line : Line
  pub after : List Line
  pub number : ℕ
  pub are : lines ≡ before ++ line ∷ after
  pub says : line.body ≡ body.Sent number p.from p.to (frame_kind p.message)
  pub called : is_called before u

-- so it is of each that was sent, but those of a node to itself
abbrev pub AreBehind : Moment → Type 0
AreBehind M = (p : Post) (h : Head) (a : Ask) → In p M.seen.sent → asks p.message ≡ Some (h, a) → is_of_commit a ≡ true →
    (p.from ≡ p.to) ⊎ IsBehind M.seen.lines p (actor h.path)

behind_more : (ls more : List Line) (p : Post) (u : Uid) → IsBehind ls p u → IsBehind (ls ++ more) p u
behind_more ls more p u b = record {
  before = b.before;
  line = b.line;
  after = b.after ++ more;
  number = b.number;
  are = ap (λ xs. xs ++ more) b.are ∙ append_assoc b.before (b.line ∷ b.after) more;
  says = b.says;
  called = b.called;
}

said_behind : (bs : List Body) (M : Moment) → AreBehind M → AreBehind (said bs M)
said_behind bs M r p h a i is its = ⊎_elim (λ same. inl same)
    (λ b. inr (behind_more M.seen.lines (numbered M.past.number bs) p (actor h.path) b)) (r p h a i is its)

-- ---- what is sent

-- the effect sends no request of a commit, or of one that was called by these lines
abbrev pub SendsCalled : List Line → Effect → Type 0
SendsCalled ls (Send to m) = (h : Head) (a : Ask) → asks m ≡ Some (h, a) → is_of_commit a ≡ true → is_called ls (actor h.path)
SendsCalled ls (Say b) = ⊤
SendsCalled ls (Do w) = ⊤

sent_behind : (p : Post) (M : Moment) → ((h : Head) (a : Ask) → asks p.message ≡ Some (h, a) → is_of_commit a ≡ true →
    is_called M.seen.lines (actor h.path)) → AreBehind M → AreBehind (sent p M)
sent_behind p M called r = by (p.to == p.from) refl (fits M)
  where
    by : (self : Bool) → (p.to == p.from) ≡ self → (fit : Bool) → AreBehind (if self then posted p M else framed_if fit p M)
    by true same fit q h a (inl is) asking its = inl (subst (λ (z : Post). z.from ≡ z.to) is (sym (eqb-true p.to p.from same)))
    by true same fit q h a (inr i) asking its = r q h a i asking its
    by false apart true q h a (inl is) asking its = inr
        (subst (λ (z : Post). IsBehind (let N = framed_if true p M in N.seen.lines) z (actor h.path)) is (record {
          before = M.seen.lines;
          line = record { event = M.past.number; body = body.Sent (M.past.frames + 1) p.from p.to (frame_kind p.message) };
          after = [];
          number = M.past.frames + 1;
          are = refl;
          says = refl;
          called = called h a (ap (λ (z : Post). asks z.message) is ∙ asking) its;
        }))
    by false apart true q h a (inr i) asking its =
        said_behind (body.Sent (M.past.frames + 1) p.from p.to (frame_kind p.message) ∷ []) M r q h a i asking its
    by false apart false q h a i asking its = r q h a i asking its

-- whatever a node does that sends so, by lines that are there
walk : (k : ℕ) (v : Parts) (ls : List Line) (outs : List Effect) (d : Disk) (M : Moment) →
    ((u : Uid) → is_called ls u → is_called M.seen.lines u) → AllByRecursion (SendsCalled ls) outs → AreBehind M →
    WalksWith AreBehind k outs (UpWith AreBehind k v) d M
walk k v ls [] d M grown all r = r
walk k v ls (Do w ∷ es) d M grown all r = (λ how. said_behind (body.Halted k ∷ []) M r, walk k v ls es (worked w d) M grown all.1 r)
walk k v ls (Say b ∷ es) d M grown all r = walk k v ls es d (said (b ∷ []) M)
    (λ u on. called_more M.seen.lines (numbered M.past.number (b ∷ [])) u (grown u on)) all.1 (said_behind (b ∷ []) M r)
walk k v ls (Send to m ∷ es) d M grown all r = walk k v ls es d (sent (post k to m) M) (more (to == k) (fits M)) all.1
    (sent_behind (post k to m) M (λ h a is its. grown (actor h.path) (all.0 h a is its)) r)
  where
    more : (self fit : Bool) (u : Uid) → is_called ls u →
        is_called (let N = if self then posted (post k to m) M else framed_if fit (post k to m) M in N.seen.lines) u
    more true fit u on = grown u on
    more false true u on = called_more M.seen.lines
        (numbered M.past.number (body.Sent (M.past.frames + 1) k to (frame_kind m) ∷ [])) u (grown u on)
    more false false u on = grown u on

-- ---- what coordinators send

-- whom the lines at the end say was called was called before
end_with : (R : Moment → Type 0) (k : ℕ) (v : Parts) (outs : List Effect) (d : Disk) (M : Moment) → Quiet outs →
    WalksWith R k outs (UpWith R k v) d M →
    (c : Disk) × (N : Moment) × R (up k c v N) × ((u : Uid) → is_called N.seen.lines u → is_called M.seen.lines u)
end_with R k v [] d M quiet w = (d, M, w, λ u on. on)
end_with R k v (Do x ∷ es) d M quiet w = end_with R k v es (worked x d) M quiet.1 w.1
end_with R k v (Say b ∷ es) d M quiet w = let z = end_with R k v es d (said (b ∷ []) M) quiet.1 w in
    (z.0, z.1, z.2, λ u on. called_back M.seen.lines M.past.number b u quiet.0 (z.3 u on))
end_with R k v (Send to m ∷ es) d M quiet w =
    let z = end_with R k v es d (sent (post k to m) M) quiet.1 w in (z.0, z.1, z.2, λ u on. less (to == k) (fits M) u (z.3 u on))
  where
    less : (self fit : Bool) (u : Uid) →
        is_called (let N = if self then posted (post k to m) M else framed_if fit (post k to m) M in N.seen.lines) u →
        is_called M.seen.lines u
    less true fit u on = on
    less false true u on = called_back M.seen.lines M.past.number (body.Sent (M.past.frames + 1) k to (frame_kind m)) u refl on
    less false false u on = on

-- no step of a call is of a commit
never_step : (x : ℕ) (g : Goal) (at : At) → is_of_commit (ask_at x g [] at) ≡ false
never_step x g (AtBind avoid) = refl
never_step x g (AtLoad k s rest) = refl
never_step x g (AtActivate k st) = refl
never_step x g (AtNote k i) = refl
never_step x g (AtInvoke k i) = refl

bare_too : (a : Ask) → is_of_commit (bare a) ≡ is_of_commit a
bare_too (ask.Confirm grants excluded included) = refl
bare_too (ask.Bind x include avoid) = refl
bare_too (ask.Load x) = refl
bare_too (ask.Activate b st) = refl
bare_too (ask.Record x b i g) = refl
bare_too (ask.Invoke x b i ends op) = refl
bare_too (ask.Vote i ties ends) = refl
bare_too (ask.Prepare states) = refl

module _ (k : ℕ) (c : Disk) (v : Parts) (N : Moment) (known : Wide Based (up k c v N)) where
  asked_called : (to : ℕ) (h : Head) (a : Ask) → IsSentBy v.coord to h a → is_of_commit a ≡ true → is_called N.seen.lines (actor h.path)
  asked_called to h a s its = by (let q = s.doing in q.now) refl
    where
      by : (n : Now) → (let q = s.doing in q.now) ≡ n → is_called N.seen.lines (actor h.path)
      by Idle is = absurd (s.busy is)
      by (Calling w) is = let o = s.step w is in
          absurd (cc (sym its ∙ sym (bare_too a) ∙ ap is_of_commit o.same ∙ never_step w.x w.goal w.at))
      by (Committing m) is = under_way k c v (seen.with_sent known.0 N.seen) known.2 (actor h.path) s.doing m s.found is

sends_called : (ls : List Line) (v : Parts) (es : List Effect) → AllSo v.coord es →
    ((to : ℕ) (h : Head) (a : Ask) → IsSentBy v.coord to h a → is_of_commit a ≡ true → is_called ls (actor h.path)) →
    AllByRecursion (SendsCalled ls) es
sends_called ls v [] all its = tt
sends_called ls v (Do w ∷ es) all its = (tt, sends_called ls v es all.1 its)
sends_called ls v (Say b ∷ es) all its = (tt, sends_called ls v es all.1 its)
sends_called ls v (Send to m ∷ es) all its = ((λ h a is of. its to h a (all.0 h a is) of), sends_called ls v es all.1 its)

quiet_walk : (k : ℕ) (v : Parts) (outs : List Effect) (d : Disk) (M : Moment) → AllSo v.coord outs → Quiet outs →
    WalksWith (Wide Based) k outs (UpWith (Wide Based) k v) d M → AreBehind M → WalksWith AreBehind k outs (UpWith AreBehind k v) d M
quiet_walk k v outs d M all quiet w r =
    let z = end_with (Wide Based) k v outs d M quiet w in
    walk k v M.seen.lines outs d M (λ u on. on)
    (sends_called M.seen.lines v outs all (λ to h a s its. z.3 (actor h.path) (asked_called k z.0 v z.1 z.2 to h a s its))) r

calls_walk : (k : ℕ) (v : Parts) (outs : List Effect) (d : Disk) (M : Moment) → AllSo v.coord outs → Calls outs →
    WalksWith (Wide Based) k outs (UpWith (Wide Based) k v) d M → AreBehind M → WalksWith AreBehind k outs (UpWith AreBehind k v) d M
calls_walk k v outs d M all (inl quiet) w r = quiet_walk k v outs d M all quiet w r
calls_walk k v outs d M all (inr (l, rest, is, quiet)) w r = subst (λ es. WalksWith AreBehind k es (UpWith AreBehind k v) d M) (sym is)
    (from (subst (AllSo v.coord) is all) (subst (λ es. WalksWith (Wide Based) k es (UpWith (Wide Based) k v) d M) is w))
  where
    from : AllSo v.coord (Say (body.Committing l) ∷ rest) →
        WalksWith (Wide Based) k (Say (body.Committing l) ∷ rest) (UpWith (Wide Based) k v) d M →
        WalksWith AreBehind k (Say (body.Committing l) ∷ rest) (UpWith AreBehind k v) d M
    from so walks = quiet_walk k v rest d (said (body.Committing l ∷ []) M) so.1 quiet walks (said_behind (body.Committing l ∷ []) M r)

-- ---- every handler

abbrev pub BasedBehind : Moment → Type 0
BasedBehind M = Wide Based M × AreBehind M

pub behind_keep : (hd : Header) → KeepsAll hd BasedBehind
behind_keep hd = record {
  opens = λ e M first number h. (wide.opens e M first number h.0, h.1);
  closes = λ bodies M number lines h. (wide.closes bodies M number lines h.0, h.1);
  steps = record {
    quiet = λ bs M plain h. (wide.steps.quiet bs M plain h.0, said_behind bs M h.1);
    junk = λ n M fit h. (wide.steps.junk n M fit h.0, said_behind (body.Sent (M.past.frames + 1) 0 n frame.Junk ∷ []) M h.1);
    stop = λ k d live M h. (wide.steps.stop k d live M h.0, said_behind (body.Halted k ∷ []) M h.1);
    message = λ k d t v from m outs M h there meant may is. let b = h.0.2.0.0.0 in
        both k outs v d M (message_sends b.0 M.past.number k d t (seen.with_sent h.0.0 M.seen) b.1 from m v outs is)
        (inl (message_fine NoCall no_call k d t v from m outs is (λ a r q s of found now waits w ends l. end_quiet s.x s.goal w l)
        (λ a r q z of found now. marks_quiet q (commit.answered from z r).marks)))
        (wide.steps.message k d t v from m outs M h.0 there meant may is) h.1;
    act = λ k d t i M is brings first asks free h. let did = acts i d.intents t.coord in let b = h.0.2.0.0.0 in
        both k did.outs (with_coord t did.part) d (asks_now i t.coord M)
        (act_sends b.0 M.past.number k d t (seen.with_sent h.0.0 M.seen) b.1 i is) (act_calls i d t.coord is)
        (wide.steps.act k d t i M is brings first asks free h.0) h.1;
    begin = λ k d t l how parent M brings first new gives none h.
        let did = begin_action l how parent (parent_of parent t.coord) t.coord in
        both k did.outs (with_coord t did.part) d (given l (record { node = k; serial = is_serial how }) M) (tt, tt) (inl (refl, tt))
        (wide.steps.begin k d t l how parent M brings first new gives none h.0) h.1;
    tick = λ k d t M h. let b = h.0.2.0.0.0 in both k (tick_outs (record { number = k; disk = d; live = Some t }) t)
        (with_coord t (again_all t.coord.doings t.coord).part) d M
        (tick_sends b.0 M.past.number k d t (seen.with_sent h.0.0 M.seen) b.1)
        (inl (tick_fine NoCall no_call (record { number = k; disk = d; live = Some t }) t)) (wide.steps.tick k d t M h.0) h.1;
    restart = λ k d M event first h. both k (restart_outs hd k (d.inc + 1) d) (parts_in k (d.inc + 1) d) d M
        (restart_asks hd k (d.inc + 1) d) (inl (restart_fine NoCall no_call hd k (d.inc + 1) d))
        (wide.steps.restart k d M event first h.0) h.1;
  };
  first = λ st formed. (wide.first st formed, λ p h a there. absurd there);
}
  where
    wide : KeepsAll hd (Wide Based)
    wide = wide_all hd Based (based_so hd)

    both : (k : ℕ) (outs : List Effect) (v : Parts) (d : Disk) (M : Moment) → AllSo v.coord outs → Calls outs →
        WalksWith (Wide Based) k outs (UpWith (Wide Based) k v) d M → AreBehind M →
        WalksWith BasedBehind k outs (UpWith BasedBehind k v) d M
    both k outs v d M all calls w r = with_both (Wide Based) AreBehind k outs (UpWith (Wide Based) k v) (UpWith AreBehind k v) d M w
        (calls_walk k v outs d M all calls w r)
