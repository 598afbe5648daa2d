-- In every run whoever waits goes on waiting for the same, until a line ends that.
use Rattle.arj_law_parts.proofs.Words
use Words.{◌≡◌, ◌≢◌, ◌⊎◌, ◌∙◌, ℕ, Bool, true, false, cond, List, [], ◌∷◌, ◌++◌, refl, sym, ap, subst, inl, inr, ⊎_elim, Option, Some, None}
use Words.{append-nil, append_assoc, eqb-true, ◌==◌, ◌+◌, option_map, In, in_to, in_left, in_right, Ask, Asked, Body, Head, Header, Label}
use Words.{Line, Message, Uid, asks, Reply, answers, again_all, begin_action, heard, Calling, Committing, Coord, Idle, Now, doing_of, Disk}
use Words.{Do, Effect, Say, Send, Served, stopped, worked, tick_outs, Parts, Took, by_reply, handle, handle_answer, handle_ask, serve}
use Words.{with_coord, Node, acts, is_waiting_now, parent_of, parts_in, restart_outs, at_place, World, numbered, run_event}
use Words.{Move, all_moved, moved, world_by, Seen, see, IsSameWork, StillWaits, coord_in, coord_of, is_serial}
use Words.body
use Rattle.arj_law_runs.proofs.Terms
use Terms.{IsGood, Holds, Keeps, KeepsOn, at, down, given, posted, said, up, Up, Walks, halted, arms_hold, event_asked, keeps_asked}
use Terms.{moves_asked, walks_both, EndsWait, HasEnded, HasHalted}
use Rattle.arj_law_runs.proofs.coordinators.CoordUses.{some_is}
use Rattle.arj_law_runs.proofs.kept.{AllRuns.all_keep, Walked.other_number, Walked.same_number}
use Rattle.arj_law_runs.proofs.resting
use resting.{Hearing.IsHome, Passing.other_work, Quiesces.good_home}
use resting.Ended.{Becomes, IsSaidIn, IsStill, acts_become, again_still, begin_still, heard_becomes, same_becomes}
use resting.Serving.{HasAnswered, IsServed, serve_served}
use Rattle.arj_law_runs.specs.resting.Answered.{RunsAnswerOrWait}

pub number_cases : (j k : ℕ) → (j ≡ k) ⊎ (j ≢ k)
number_cases j k = by (j == k) refl
  where
    by : (b : Bool) → (j == k) ≡ b → (j ≡ k) ⊎ (j ≢ k)
    by true is = inl (eqb-true j k is)
    by false is = inr (λ same. let no_way : true ≡ false = sym (same_number k) ∙ ap (λ i. i == k) (sym same) ∙ is in absurd (cc no_way))

pub in_numbered : (e : ℕ) (bs : List Body) (b : Body) → In b bs → In (record { event = e; body = b }) (numbered e bs)
in_numbered e [] b i = absurd i
in_numbered e (c ∷ cs) b (inl is) = inl (λ i. record { event = e; body = is i })
in_numbered e (c ∷ cs) b (inr i) = inr (in_numbered e cs b i)

module _ (old : List Line) (k : ℕ) (l : Label) (u : Uid) (before : Now) where
  -- the node is up, and has the action waiting for the same
  record IsThere (M : Seen) : Type 0 where
    node : Node
    parts : Parts
    found : M.nodes k ≡ Some node
    live : node.live ≡ Some parts
    still : IsStill k l u before parts.coord

  -- one of these lines ended that
  record IsOver (more : List Line) : Type 0 where
    line : Line
    there : In line more
    ends : EndsWait k l before line.body

  record Goes (M : Seen) : Type 0 where
    more : List Line
    are : M.lines ≡ old ++ more
    now : IsThere M ⊎ IsOver more

  -- ---- lines

  over_more : (more new : List Line) → IsOver more → IsOver (more ++ new)
  over_more more new o = record { line = o.line; there = in_left o.line more new o.there; ends = o.ends }

  over_new : (more : List Line) (e : ℕ) (bs : List Body) (b : Body) → In b bs → EndsWait k l before b → IsOver (more ++ numbered e bs)
  over_new more e bs b i ends = record {
    line = record { event = e; body = b };
    there = in_right (record { event = e; body = b }) more (numbered e bs) (in_numbered e bs b i);
    ends = ends;
  }

  lines_are : (lines more new : List Line) → lines ≡ old ++ more → lines ++ new ≡ old ++ (more ++ new)
  lines_are lines more new are = ap (λ ls. ls ++ new) are ∙ append_assoc old more new

  -- ---- nodes

  elsewhere : (j : ℕ) (d : Disk) (live : Option Parts) (M : Seen) → j ≢ k → IsThere M → IsThere (at j d live M)
  elsewhere j d live M apart t = record {
    node = t.node;
    parts = t.parts;
    found = (λ i. cond (other_number k j (λ same. apart (sym same)) i) (Some (record { number = j; disk = d; live = live })) (M.nodes k))
        ∙ t.found;
    live = t.live;
    still = t.still;
  }

  here : (j : ℕ) (d : Disk) (v : Parts) (M : Seen) → j ≡ k → IsStill k l u before v.coord → IsThere (up j d v M)
  here j d v M own still = record {
    node = record { number = j; disk = d; live = Some v };
    parts = v;
    found = λ i. cond (same i) (Some (record { number = j; disk = d; live = Some v })) (M.nodes k);
    live = refl;
    still = still;
  }
    where
      same : (k == j) ≡ true
      same = ap (λ n. k == n) own ∙ same_number k

  -- what isn't of nodes is nothing to it
  same_there : (M N : Seen) → N.nodes ≡ M.nodes → IsThere M → IsThere N
  same_there M N same t = record { node = t.node; parts = t.parts; found = (λ i. same i k) ∙ t.found; live = t.live; still = t.still }

  -- it was at this node, or at another one
  from_at : (j : ℕ) (d : Disk) (live : Option Parts) (M : Seen) → IsThere (at j d live M) →
      ((j ≡ k) × (t : Parts) × (live ≡ Some t) × IsStill k l u before t.coord) ⊎ ((j ≢ k) × IsThere M)
  from_at j d live M t = ⊎_elim
      (λ own.
      let same : (k == j) ≡ true = ap (λ n. k == n) own ∙ same_number k in
      let mine : record { number = j; disk = d; live = live } ≡ t.node = some_is (record { number = j; disk = d; live = live }) t.node
      ((λ i. cond (sym same i) (Some (record { number = j; disk = d; live = live })) (M.nodes k)) ∙ t.found) in
      inl (own, t.parts, ap (λ (n : Node). n.live) mine ∙ t.live, t.still))
      (λ apart. inr (
        apart,
        record {
          node = t.node;
          parts = t.parts;
          found = (λ i. cond (sym (other_number k j (λ same. apart (sym same))) i) (Some (record { number = j; disk = d; live = live }))
              (M.nodes k)) ∙ t.found;
          live = t.live;
          still = t.still;
        },
      )) (number_cases j k)

  -- ---- a walk

  -- within a step of node j: it is over, or at another node, or at this one still to be, or to be ended by what is to be said
  data Stage (j : ℕ) (v : Parts) (outs : List Effect) (M : Seen) (more : List Line) : Type 0 where
    Ended : IsOver more → Stage j v outs M more
    Elsewhere : j ≢ k → IsThere M → Stage j v outs M more
    Here : j ≡ k → IsStill k l u before v.coord ⊎ IsSaidIn k l u before outs → Stage j v outs M more

  halts : (e j : ℕ) (v : Parts) (outs : List Effect) (d : Disk) (M : Seen) (more : List Line) → M.lines ≡ old ++ more →
      Stage j v outs M more → Goes (halted e j d M)
  halts e j v outs d M more are s = record {
    more = more ++ numbered e (body.Halted j ∷ []);
    are = lines_are M.lines more (numbered e (body.Halted j ∷ [])) are;
    now = by s;
  }
    where
      by : Stage j v outs M more → IsThere (halted e j d M) ⊎ IsOver (more ++ numbered e (body.Halted j ∷ []))
      by (Ended o) = inr (over_more more (numbered e (body.Halted j ∷ [])) o)
      by (Elsewhere apart t) = inl (same_there (down j d M) (halted e j d M) refl (elsewhere j d None M apart t))
      by (Here own x) = inr (over_new more e (body.Halted j ∷ []) (body.Halted j) (inl refl) (HasHalted (ap body.Halted own)))

  behind_work : (j : ℕ) (v : Parts) (e : Effect) (es : List Effect) (M : Seen) (more : List Line) → ((b : Body) → e ≡ Say b → ⊥) →
      Stage j v (e ∷ es) M more → Stage j v es M more
  behind_work j v e es M more silent (Ended o) = Ended o
  behind_work j v e es M more silent (Elsewhere apart t) = Elsewhere apart t
  behind_work j v e es M more silent (Here own (inl still)) = Here own (inl still)
  behind_work j v e es M more silent (Here own (inr s)) =
      Here own (inr (record { line = s.line; said = ⊎_elim (λ is. absurd (silent s.line is)) (λ i. i) s.said; ends = s.ends }))

  -- lines more, and what was sent
  grown : (j : ℕ) (v : Parts) (outs : List Effect) (M N : Seen) (more new : List Line) → N.nodes ≡ M.nodes → Stage j v outs M more →
      Stage j v outs N (more ++ new)
  grown j v outs M N more new same (Ended o) = Ended (over_more more new o)
  grown j v outs M N more new same (Elsewhere apart t) = Elsewhere apart (same_there M N same t)
  grown j v outs M N more new same (Here own x) = Here own x

  behind_line : (e j : ℕ) (v : Parts) (b : Body) (es : List Effect) (M : Seen) (more : List Line) → Stage j v (Say b ∷ es) M more →
      Stage j v es (said e (b ∷ []) M) (more ++ numbered e (b ∷ []))
  behind_line e j v b es M more (Ended o) = Ended (over_more more (numbered e (b ∷ [])) o)
  behind_line e j v b es M more (Elsewhere apart t) = Elsewhere apart (same_there M (said e (b ∷ []) M) refl t)
  behind_line e j v b es M more (Here own (inl still)) = Here own (inl still)
  behind_line e j v b es M more (Here own (inr s)) = ⊎_elim
      (λ is. Ended (over_new more e (b ∷ []) s.line (inl (says b s.line is)) s.ends))
      (λ i. Here own (inr (record { line = s.line; said = i; ends = s.ends }))) s.said
    where
      says : (x y : Body) → Say x ≡ Say y → x ≡ y
      says x y is = cc is

  walk : (e j : ℕ) (v : Parts) (outs : List Effect) (d : Disk) (M : Seen) (more : List Line) → M.lines ≡ old ++ more →
      Stage j v outs M more → Walks Goes e j outs (Up Goes j v) d M
  walk e j v [] d M more are s = record { more = more; are = are; now = by s }
    where
      by : Stage j v [] M more → IsThere (up j d v M) ⊎ IsOver more
      by (Ended o) = inr o
      by (Elsewhere apart t) = inl (elsewhere j d (Some v) M apart t)
      by (Here own (inl still)) = inl (here j d v M own still)
      by (Here own (inr said)) = absurd said.said
  walk e j v (Do w ∷ es) d M more are s = (
    λ how. halts e j v (Do w ∷ es) (stopped how w d) M more are s,
    walk e j v es (worked w d) M more are (behind_work j v (Do w) es M more (λ b is. cc is) s),
  )
  walk e j v (Say b ∷ es) d M more are s = walk e j v es d (said e (b ∷ []) M) (more ++ numbered e (b ∷ []))
      (lines_are M.lines more (numbered e (b ∷ [])) are) (behind_line e j v b es M more s)
  walk e j v (Send to m ∷ es) d M more are s = λ new quiet.
      let N = said e new (posted (record { from = j; to = to; message = m }) M) in
      walk e j v es d N (more ++ numbered e new) (lines_are M.lines more (numbered e new) are)
      (grown j v es M N more (numbered e new) refl (behind_work j v (Send to m) es M more (λ b is. cc is) s))

  -- as a node that is up begins to do something
  start : (j : ℕ) (d : Disk) (t v : Parts) (outs : List Effect) (M : Seen) → (g : Goes (up j d t M)) →
      Becomes k l u before t.coord v.coord outs → Stage j v outs M g.more
  start j d t v outs M g becomes = by g.now
    where
      by : IsThere (up j d t M) ⊎ IsOver g.more → Stage j v outs M g.more
      by (inr o) = Ended o
      by (inl x) = ⊎_elim
          (λ mine. Here mine.0 (becomes (subst (λ (p : Parts). IsStill k l u before p.coord) (sym (some_is t mine.1 mine.2)) mine.3)))
          (λ other. Elsewhere other.0 other.1) (from_at j d (Some t) M x)

  -- ---- a message

  took_parts : (a b : Parts) (es fs : List Effect) → Took a es ≡ Took b fs → a ≡ b
  took_parts a b es fs is = cc is

  took_outs : (a b : Parts) (es fs : List Effect) → Took a es ≡ Took b fs → es ≡ fs
  took_outs a b es fs is = cc is

  message_becomes : (n : ℕ) (d : Disk) (t v : Parts) (from : ℕ) (m : Message) (outs : List Effect) → IsHome t.coord →
      handle n d t from m ≡ Took v outs → Becomes k l u before t.coord v.coord outs
  message_becomes n d t v from m outs home took = by (asks m) refl
    where
      request : (h : Head) (a : Ask) → asks m ≡ Some (h, a) → Becomes k l u before t.coord v.coord outs
      request h a is =
          let served : serve n d t from h a ≡ Took v outs = (λ i. handle_ask n d t from m (sym is i)) ∙ took in
          let x : HasAnswered from h a t v outs = subst (IsServed from h a t) served (serve_served n d t from h a) in
          same_becomes k l u before t.coord v.coord outs (λ w. ap (doing_of w) x.coord)

      answer : (a : Asked) (r : Reply) → asks m ≡ None → answers m ≡ Some (a, r) → Becomes k l u before t.coord v.coord outs
      answer a r silent is =
          one s.reply ((λ i. handle_answer n d t from m (sym is i)) ∙ (λ i. handle_ask n d t from m (sym silent i)) ∙ took)
        where
          s : Served Coord (Unit {0})
          s = heard from a r d.intents t.coord

          one : (o : Option (Unit {0})) → by_reply (with_coord t s.part) s.outs o ≡ Took v outs → Becomes k l u before t.coord v.coord outs
          one None is = absurd (cc is)
          one (Some x) is =
              subst (λ (p : Parts). Becomes k l u before t.coord p.coord outs) (took_parts (with_coord t s.part) v s.outs outs is)
              (subst (Becomes k l u before t.coord s.part) (took_outs (with_coord t s.part) v s.outs outs is)
              (heard_becomes k l u before from a r d.intents t.coord home))

      reply : asks m ≡ None → (o : Option (Asked × Reply)) → answers m ≡ o → Becomes k l u before t.coord v.coord outs
      reply silent None mute = same_becomes k l u before t.coord v.coord outs (λ w. other_work n d t from m silent mute v outs took w)
      reply silent (Some x) is = answer x.0 x.1 silent is

      by : (o : Option (Head × Ask)) → asks m ≡ o → Becomes k l u before t.coord v.coord outs
      by (Some x) is = request x.0 x.1 is
      by None silent = reply silent (answers m) refl

  -- ---- all handlers

  abbrev Both : Seen → Type 0
  Both M = IsGood M × Goes M

  both : (e j : ℕ) (outs : List Effect) (v : Parts) (d : Disk) (M : Seen) → Walks IsGood e j outs (Up IsGood j v) d M →
      Walks Goes e j outs (Up Goes j v) d M → Walks Both e j outs (Up Both j v) d M
  both e j outs v d M a b = walks_both IsGood Goes e j outs (Up IsGood j v) (Up Goes j v) d M a b

  goes_keep : (hd : Header) → KeepsOn hd Both
  goes_keep hd = record {
    quiet = λ e bs M quiet p. (good.quiet e bs M quiet p.0, lines_go e bs M p.1);
    stop = λ e j d live M p. (good.stop e j d live M p.0, stops e j d live M p.1);
    message = λ e j d t v from m outs M p there meant is.
        both e j outs v d M (good.message e j d t v from m outs M p.0 there meant is)
        (let g = p.1 in
        walk e j v outs d M g.more g.are (start j d t v outs M g (message_becomes j d t v from m outs (good_home j d t M p.0) is)));
    act = λ e j d t i M is asks free p.
        let did = acts i d.intents t.coord in
        let v = with_coord t did.part in
        both e j did.outs v d M (good.act e j d t i M is free p.0)
        (let g = p.1 in walk e j v did.outs d M g.more g.are
        (start j d t v did.outs M g (acts_become k l u before hd i d.intents t.coord (good_home j d t M p.0) is free)));
    begin = λ e j d t m how parent M new may free p.
        let did = begin_action m how parent (parent_of parent t.coord) t.coord in
        let v = with_coord t did.part in
        let N = given m (record { node = j; serial = is_serial how }) M in
        both e j did.outs v d N (good.begin e j d t m how parent M new may free p.0)
        (let g = p.1 in walk e j v did.outs d N g.more g.are (same_stage j v did.outs M N g.more refl
        (start j d t v did.outs M g (λ still. inl (begin_still k l u before m how parent (parent_of parent t.coord) t.coord still)))));
    tick = λ e j d t M p.
        let outs = tick_outs (record { number = j; disk = d; live = Some t }) t in
        let v = with_coord t (again_all t.coord.doings t.coord).part in
        both e j outs v d M (good.tick e j d t M p.0)
        (let g = p.1 in walk e j v outs d M g.more g.are (start j d t v outs M g (λ still. inl (again_still k l u before t.coord still))));
    restart = λ e j d M p.
        let outs = restart_outs hd j (d.inc + 1) d in
        let v = parts_in j (d.inc + 1) d in
        both e j outs v d M (good.restart e j d M p.0)
        (let g = p.1 in walk e j v outs d M g.more g.are (from_down j d v outs M g));
    first = tt;
  }
    where
      good : Keeps hd IsGood
      good = all_keep hd

      lines_go : (e : ℕ) (bs : List Body) (M : Seen) → Goes M → Goes (said e bs M)
      lines_go e bs M g = record {
        more = g.more ++ numbered e bs;
        are = lines_are M.lines g.more (numbered e bs) g.are;
        now = ⊎_elim (λ t. inl (same_there M (said e bs M) refl t)) (λ o. inr (over_more g.more (numbered e bs) o)) g.now;
      }

      stops : (e j : ℕ) (d : Disk) (live : Option Parts) (M : Seen) → Goes (at j d live M) → Goes (halted e j d M)
      stops e j d live M g = record {
        more = g.more ++ numbered e (body.Halted j ∷ []);
        are = lines_are M.lines g.more (numbered e (body.Halted j ∷ [])) g.are;
        now = by g.now;
      }
        where
          by : IsThere (at j d live M) ⊎ IsOver g.more → IsThere (halted e j d M) ⊎ IsOver (g.more ++ numbered e (body.Halted j ∷ []))
          by (inr o) = inr (over_more g.more (numbered e (body.Halted j ∷ [])) o)
          by (inl t) = ⊎_elim
              (λ mine. inr (over_new g.more e (body.Halted j ∷ []) (body.Halted j) (inl refl) (HasHalted (ap body.Halted mine.0))))
              (λ other. inl (same_there (down j d M) (halted e j d M) refl (elsewhere j d None M other.0 other.1))) (from_at j d live M t)

      same_stage : (j : ℕ) (v : Parts) (outs : List Effect) (M N : Seen) (more : List Line) → N.nodes ≡ M.nodes → Stage j v outs M more →
          Stage j v outs N more
      same_stage j v outs M N more same (Ended o) = Ended o
      same_stage j v outs M N more same (Elsewhere apart t) = Elsewhere apart (same_there M N same t)
      same_stage j v outs M N more same (Here own x) = Here own x

      from_down : (j : ℕ) (d : Disk) (v : Parts) (outs : List Effect) (M : Seen) → (g : Goes (down j d M)) → Stage j v outs M g.more
      from_down j d v outs M g = by g.now
        where
          by : IsThere (down j d M) ⊎ IsOver g.more → Stage j v outs M g.more
          by (inr o) = Ended o
          by (inl t) = ⊎_elim (λ mine. let no_way : ◌≡◌ {A = Option Parts} None (Some mine.1) = mine.2 in
              absurd (cc no_way)) (λ other. Elsewhere other.0 other.1) (from_at j d None M t)

-- ---- moves

pub moves_from : (hd : Header) (P : Seen → Type 0) → KeepsOn hd P → (ns : List Move) (w : World) → Holds hd P w →
    Holds hd P (all_moved ns w)
moves_from hd P keeps [] w h = h
moves_from hd P keeps (m ∷ ns) w h = moves_from hd P keeps ns (moved m w) (arms_hold hd P [] (run_event m.asked
    (record w { arms = m.falls })) (event_asked hd P keeps m.asked (record w { arms = m.falls }) (arms_hold hd P m.falls w h)))

-- whoever waits waits for the same
same_now : (n : Now) → is_waiting_now n ≡ true → IsSameWork n n
same_now Idle waits = absurd (cc waits)
same_now (Calling s) waits = (refl, refl)
same_now (Committing m) waits = tt

pub runs_answer_or_wait : RunsAnswerOrWait
runs_answer_or_wait hd r ns k c u q found does waits = by (let p = after.holds in let g = p.1 in g.now)
  where
    w : World
    w = world_by hd r

    good : Holds hd IsGood (world_by hd r)
    good = moves_asked hd IsGood (keeps_asked hd IsGood (all_keep hd)) r

    P : Seen → Type 0
    P = Both w.lines k q.label u q.now

    there : IsThere w.lines k q.label u q.now (see good.sent w)
    there = at_node (at_place k w.nodes) refl found
      where
        up_at : (n : Node) (o : Option Parts) → at_place k w.nodes ≡ Some n → n.live ≡ o → option_map coord_of o ≡ Some c →
            IsThere w.lines k q.label u q.now (see good.sent w)
        up_at n None is live at = absurd (cc at)
        up_at n (Some t) is live at = record {
          node = n;
          parts = t;
          found = is;
          live = live;
          still = record { doing = q; does = ap (doing_of u) (some_is t.coord c at) ∙ does; label = refl; same = same_now q.now waits };
        }

        at_node : (o : Option Node) → at_place k w.nodes ≡ o → coord_in o ≡ Some c → IsThere w.lines k q.label u q.now (see good.sent w)
        at_node None is at = absurd (cc at)
        at_node (Some n) is at = up_at n n.live is refl at

    first : Holds hd P w
    first = record {
      sent = good.sent;
      stands = good.stands;
      holds = (good.holds, record { more = []; are = sym (append-nil w.lines); now = inl there });
    }

    after : Holds hd P (all_moved ns w)
    after = moves_from hd P (goes_keep w.lines k q.label u q.now hd) ns w first

    by : IsThere w.lines k q.label u q.now (see after.sent (all_moved ns w)) ⊎ IsOver w.lines k q.label u q.now (let p = after.holds in
        let g = p.1 in g.more) → StillWaits (all_moved ns w) k u q ⊎ HasEnded k q w.lines (all_moved ns w).lines
    by (inl t) = inl (let s = t.still in record {
      coord = (let p = t.parts in p.coord);
      doing = s.doing;
      found = ap coord_in t.found ∙ (λ i. option_map coord_of (t.live i));
      does = s.does;
      label = s.label;
      same = s.same;
    })
    by (inr o) = inr (record {
      more = (let p = after.holds in let g = p.1 in g.more);
      line = o.line;
      are = (let p = after.holds in let g = p.1 in g.are);
      there = in_to o.line (let p = after.holds in let g = p.1 in g.more) o.there;
      ends = o.ends;
    })
