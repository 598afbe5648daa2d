-- Whatever a node does it stays up, or a line says that it halted.
use Rattle.arj_law_parts.proofs.Words
use Words.{◌≡◌, ◌≢◌, ◌⊎◌, ◌∙◌, ℕ, true, cond, List, [], ◌∷◌, ◌++◌, refl, sym, ap, subst, inl, inr, ⊎_elim, Option, Some, None, append-nil}
use Words.{append_assoc, ◌&&◌, ◌==◌, ◌+◌, is_some, nat_le, AllByRecursion, In, in_from, in_to, in_left, in_right, Header, Line, again_all}
use Words.{begin_action, Disk, Do, Effect, Say, Send, stopped, worked, tick_outs, Parts, with_coord, Node, acts, parent_of, parts_in}
use Words.{restart_outs, at_place, World, is_node, is_up, is_up_at, numbered, all_moved, world_by, Seen, see, is_serial}
use Words.body
use Rattle.arj_law_runs.proofs.Terms
use Terms.{IsGood, Holds, KeepsOn, at, down, given, posted, said, up, Up, Walks, halted, keeps_asked, moves_asked, moves_go_on}
use Rattle.arj_law_parts.specs.steps.Halts.{halted_node}
use Rattle.arj_law_runs.proofs.kept.{AllRuns.all_keep, Walked.other_number, Walked.same_number}
use Rattle.arj_law_runs.proofs.resting
use resting.{PlainRuns.cancel, PlainRuns.each_of}
use resting.EndedRuns.{in_numbered, moves_from, number_cases}
use Rattle.arj_law_runs.specs.resting.Ups.{AllStayUp, RunsStayUp, SaysHalted}

module _ (old : List Line) (k : ℕ) where
  record IsThere (M : Seen) : Type 0 where
    node : Node
    parts : Parts
    found : M.nodes k ≡ Some node
    live : node.live ≡ Some parts

  record IsOver (more : List Line) : Type 0 where
    line : Line
    there : In line more
    halted : line.body ≡ body.Halted k

  record Stays (M : Seen) : Type 0 where
    more : List Line
    are : M.lines ≡ old ++ more
    now : IsThere M ⊎ IsOver more

  over_more : (more new : List Line) → IsOver more → IsOver (more ++ new)
  over_more more new o = record { line = o.line; there = in_left o.line more new o.there; halted = o.halted }

  -- node j has halted, or it is another one that is up
  abbrev Here : ℕ → Seen → List Line → Type 0
  Here j M more = (j ≡ k) ⊎ (IsThere M ⊎ IsOver more)

  lines_on : (M : Seen) (more new : List Line) → M.lines ≡ old ++ more → M.lines ++ new ≡ old ++ (more ++ new)
  lines_on M more new are = ap (λ ls. ls ++ new) are ∙ append_assoc old more new

  same_there : (M N : Seen) → N.nodes ≡ M.nodes → IsThere M → IsThere N
  same_there M N same t = record { node = t.node; parts = t.parts; found = (λ i. same i k) ∙ t.found; live = t.live }

  here_on : (j : ℕ) (M N : Seen) (more new : List Line) → N.nodes ≡ M.nodes → Here j M more → Here j N (more ++ new)
  here_on j M N more new same (inl own) = inl own
  here_on j M N more new same (inr (inl t)) = inr (inl (same_there M N same t))
  here_on j M N more new same (inr (inr o)) = inr (inr (over_more more new o))

  elsewhere : (j : ℕ) (d : Disk) (live : Option Parts) (M : Seen) → j ≢ k → IsThere M → IsThere (at j d live M)
  elsewhere j d live M apart t = record {
    node = t.node;
    parts = t.parts;
    found = (λ i. cond (other_number k j (λ same. apart (sym same)) i) (Some (record { number = j; disk = d; live = live })) (M.nodes k))
        ∙ t.found;
    live = t.live;
  }

  mine : (j : ℕ) (d : Disk) (v : Parts) (M : Seen) → j ≡ k → IsThere (up j d v M)
  mine j d v M own = record {
    node = record { number = j; disk = d; live = Some v };
    parts = v;
    found = λ i. cond ((ap (λ n. k == n) own ∙ same_number k) i) (Some (record { number = j; disk = d; live = Some v })) (M.nodes k);
    live = refl;
  }

  -- it is another node, or this one
  before : (j : ℕ) (d : Disk) (live : Option Parts) (M : Seen) → IsThere (at j d live M) → (j ≡ k) ⊎ ((j ≢ k) × IsThere M)
  before j d live M t = ⊎_elim (λ own. inl own)
      (λ apart. inr (
        apart,
        record {
          node = t.node;
          parts = t.parts;
          found = (λ i. cond (sym (other_number k j (λ same. apart (sym same))) i) (Some (record { number = j; disk = d; live = live }))
              (M.nodes k)) ∙ t.found;
          live = t.live;
        },
      )) (number_cases j k)

  begins : (j : ℕ) (d : Disk) (live : Option Parts) (M : Seen) (more : List Line) → IsThere (at j d live M) ⊎ IsOver more → Here j M more
  begins j d live M more (inr o) = inr (inr o)
  begins j d live M more (inl t) = ⊎_elim (λ own. inl own) (λ other. inr (inl other.1)) (before j d live M t)

  halts : (e j : ℕ) (d : Disk) (M : Seen) (more : List Line) → M.lines ≡ old ++ more → Here j M more → Stays (halted e j d M)
  halts e j d M more are h =
      record { more = more ++ numbered e (body.Halted j ∷ []); are = lines_on M more (numbered e (body.Halted j ∷ [])) are; now = by h }
    where
      said_so : j ≡ k → IsOver (more ++ numbered e (body.Halted j ∷ []))
      said_so own = record {
        line = record { event = e; body = body.Halted j };
        there = in_right (record { event = e; body = body.Halted j }) more (numbered e (body.Halted j ∷ []))
            (in_numbered e (body.Halted j ∷ []) (body.Halted j) (inl refl));
        halted = ap body.Halted own;
      }

      by : Here j M more → IsThere (halted e j d M) ⊎ IsOver (more ++ numbered e (body.Halted j ∷ []))
      by (inl own) = inr (said_so own)
      by (inr (inr o)) = inr (over_more more (numbered e (body.Halted j ∷ [])) o)
      by (inr (inl t)) = ⊎_elim (λ own. inr (said_so own))
          (λ apart. inl (same_there (down j d M) (halted e j d M) refl (elsewhere j d None M apart t))) (number_cases j k)

  walk : (e j : ℕ) (v : Parts) (outs : List Effect) (d : Disk) (M : Seen) (more : List Line) → M.lines ≡ old ++ more → Here j M more →
      Walks Stays e j outs (Up Stays j v) d M
  walk e j v [] d M more are h = record { more = more; are = are; now = by h }
    where
      by : Here j M more → IsThere (up j d v M) ⊎ IsOver more
      by (inl own) = inl (mine j d v M own)
      by (inr (inr o)) = inr o
      by (inr (inl t)) = inl (⊎_elim (λ own. mine j d v M own) (λ apart. elsewhere j d (Some v) M apart t) (number_cases j k))
  walk e j v (Do w ∷ es) d M more are h = (λ how. halts e j (stopped how w d) M more are h, walk e j v es (worked w d) M more are h)
  walk e j v (Say b ∷ es) d M more are h = walk e j v es d (said e (b ∷ []) M) (more ++ numbered e (b ∷ []))
      (lines_on M more (numbered e (b ∷ [])) are) (here_on j M (said e (b ∷ []) M) more (numbered e (b ∷ [])) refl h)
  walk e j v (Send to m ∷ es) d M more are h = λ new quiet.
      let N = said e new (posted (record { from = j; to = to; message = m }) M) in
      walk e j v es d N (more ++ numbered e new) (lines_on M more (numbered e new) are) (here_on j M N more (numbered e new) refl h)

  stays_keep : (hd : Header) → KeepsOn hd Stays
  stays_keep hd = record {
    quiet = λ e bs M quiet p. record {
      more = p.more ++ numbered e bs;
      are = lines_on M p.more (numbered e bs) p.are;
      now = ⊎_elim (λ t. inl (same_there M (said e bs M) refl t)) (λ o. inr (over_more p.more (numbered e bs) o)) p.now;
    };
    stop = λ e j d live M p. halts e j d M p.more p.are (begins j d live M p.more p.now);
    message = λ e j d t v from m outs M p there meant is. walk e j v outs d M p.more p.are (begins j d (Some t) M p.more p.now);
    act = λ e j d t i M is asks free p. let did = acts i d.intents t.coord in
        walk e j (with_coord t did.part) did.outs d M p.more p.are (begins j d (Some t) M p.more p.now);
    begin = λ e j d t m how parent M new may free p.
        let did = begin_action m how parent (parent_of parent t.coord) t.coord in
        let N = given m (record { node = j; serial = is_serial how }) M in
        walk e j (with_coord t did.part) did.outs d N p.more p.are (given_on j M N p.more refl (begins j d (Some t) M p.more p.now));
    tick = λ e j d t M p. walk e j (with_coord t (again_all t.coord.doings t.coord).part)
        (tick_outs (record { number = j; disk = d; live = Some t }) t) d M p.more p.are (begins j d (Some t) M p.more p.now);
    restart = λ e j d M p.
        walk e j (parts_in j (d.inc + 1) d) (restart_outs hd j (d.inc + 1) d) d M p.more p.are (begins j d None M p.more p.now);
    first = tt;
  }
    where
      given_on : (j : ℕ) (M N : Seen) (more : List Line) → N.nodes ≡ M.nodes → Here j M more → Here j N more
      given_on j M N more same (inl own) = inl own
      given_on j M N more same (inr (inl t)) = inr (inl (same_there M N same t))
      given_on j M N more same (inr (inr o)) = inr (inr o)

-- ---- moves

pub runs_stay_up : RunsStayUp
runs_stay_up hd r ns k up = by (let p = after.holds in p.now)
  where
    w : World
    w = world_by hd r

    good : Holds hd IsGood (world_by hd r)
    good = moves_asked hd IsGood (keeps_asked hd IsGood (all_keep hd)) r

    there : IsThere w.lines k (see good.sent w)
    there = at_node (at_place k w.nodes) refl up
      where
        live_at : (n : Node) (o : Option Parts) → at_place k w.nodes ≡ Some n → n.live ≡ o → is_some o ≡ true →
            IsThere w.lines k (see good.sent w)
        live_at n None is live some = absurd (cc some)
        live_at n (Some t) is live some = record { node = n; parts = t; found = is; live = live }

        at_node : (o : Option Node) → at_place k w.nodes ≡ o → is_up o ≡ true → IsThere w.lines k (see good.sent w)
        at_node None is some = absurd (cc some)
        at_node (Some n) is some = live_at n n.live is refl some

    after : Holds hd (Stays w.lines k) (all_moved ns w)
    after = moves_from hd (Stays w.lines k) (stays_keep w.lines k hd) ns w
        (record { sent = good.sent; stands = good.stands; holds = record { more = []; are = sym (append-nil w.lines); now = inl there } })

    by : IsThere w.lines k (see after.sent (all_moved ns w)) ⊎ IsOver w.lines k (let p = after.holds in p.more) →
        (is_up_at k (all_moved ns w) ≡ true) ⊎ SaysHalted k w.lines (all_moved ns w).lines
    by (inl t) = inl (ap is_up t.found ∙ ap (λ o. is_some o) t.live)
    by (inr o) = inr (record {
      more = (let p = after.holds in p.more);
      line = o.line;
      are = (let p = after.holds in p.are);
      there = in_to o.line (let p = after.holds in p.more) o.there;
      halted = o.halted;
    })

pub all_stay_up : AllStayUp
all_stay_up hd r ns ups none k of = ⊎_elim (λ up. up) (λ said. absurd (never said)) (runs_stay_up hd r ns k (ups k before_of))
  where
    w : World
    w = world_by hd r

    good : Holds hd IsGood (world_by hd r)
    good = moves_asked hd IsGood (keeps_asked hd IsGood (all_keep hd)) r

    later : Holds hd IsGood (all_moved ns w)
    later = moves_go_on hd IsGood (keeps_asked hd IsGood (all_keep hd)) ns w good

    before_of : is_node k w ≡ true
    before_of = subst (λ (x : Header). (nat_le 1 k && nat_le k x.nodes) ≡ true) (later.stands.header ∙ sym good.stands.header) of

    never : SaysHalted k w.lines (all_moved ns w).lines → ⊥
    never s =
        let same = cancel w.lines none.0 s.more (sym none.1 ∙ s.are) in
        let its = each_of (λ (line : Line). halted_node line.body ≡ None) s.more s.line
        (subst (AllByRecursion (λ (line : Line). halted_node line.body ≡ None)) same none.2) (in_from s.line s.more s.there) in
        let no_way : Some k ≡ None = sym (ap halted_node s.halted) ∙ its in
        absurd (cc no_way)
