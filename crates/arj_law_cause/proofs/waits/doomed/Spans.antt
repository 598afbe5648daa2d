-- Each request that went to another node has its line, behind the events that can own it.
use Rattle.arj_law_parts.proofs.Words
use Words.{◌≡◌, ◌⊎◌, ◌∙◌, ◌+◌, ◌++◌, ◌==◌, ◌≤◌, ℕ, Bool, true, false, cond, if◌then◌else◌, List, [], ◌∷◌, length, Option, Some, None, refl}
use Words.{sym, ap, subst}
use Words.{inl, inr, ⊎_elim, arith, append_assoc, length-append, and_parts, eqb-true, Ask, Body, Head, Header, Label, Line, Uid, asks}
use Words.{actor, frame_kind}
use Words.{last_req, again_all, begin_action, tick_outs, Doing, doing_of, Do, Disk, Effect, Say, Send, worked, Parts, with_coord, acts}
use Words.{Input, Branch, is_own}
use Words.{branch_named, branch_of, at_place, refusal_up, refused_by, call_reasons, include_reasons, commit_reasons, parent_of, parts_in}
use Words.{restart_outs, is_serial, numbered}
use Words.{Post}
use Words.body
use Words.frame
use Words.input
use Words.list
use Rattle.arj_law_lock_view.proofs.Terms
use Terms.{paths_of, IsGoodCoord, IsTree, begun_tree, path_found, IsGoodOf, IsUp, same_number, IsAtStarts}
use Rattle.arj_law_lock_view.proofs.moments.Answers.{Known, known_wide}
use Rattle.arj_law_lock_view.specs.facts.Requests.{IsAskedBy}
use Rattle.arj_law_parts.proofs.moves.{Flat.post, Happens.Wide, Together.with_both}
use Rattle.arj_law_parts.proofs.parts.CoordInputs.{named_found}
use Rattle.arj_law_parts.specs.moves.Moments.{Asking, Moment, asks_now, asking_of, fits, found_act, framed_if, given}
use Rattle.arj_law_parts.specs.moves.Moments.{posted, said, sent, up}
use Rattle.arj_law_parts.specs.moves.Seen.{In}
use Rattle.arj_law_parts.specs.moves.Seen as seen
use Rattle.arj_law_parts.specs.moves.With.{IsFirst, KeepsAll, KeepsWith, UpWith, WalksWith}

-- its frame's line stands behind the events that can own the request
pub record IsLined (askings : List Asking) (lines : List Line) (p : Post) (h : Head) : Type 0 where
  pub before : List Line
  pub line : Line
  pub after : List Line
  pub number : ℕ
  pub are : lines ≡ before ++ line ∷ after
  pub says : line.body ≡ body.Sent number p.from p.to (frame_kind p.message)
  pub behind : (k : Asking) → list.In k askings → k.act ≡ actor h.path → k.first ≤ h.req → (let e = k.asked in e.at) ≤ length before

-- so it is of each request that was sent, but those of a node to itself; and what was asked was asked before
pub record AreLined (M : Moment) : Type 0 where
  pub lined : (p : Post) (h : Head) (a : Ask) → In p M.seen.sent → asks p.message ≡ Some (h, a) →
      (p.from ≡ p.to) ⊎ IsLined M.past.askings M.seen.lines p h
  pub asked : (k : Asking) → list.In k M.past.askings → (let e = k.asked in e.at) ≤ length M.seen.lines

lined_more : (A : List Asking) (ls more : List Line) (p : Post) (h : Head) → IsLined A ls p h → IsLined A (ls ++ more) p h
lined_more A ls more p h l = record {
  before = l.before;
  line = l.line;
  after = l.after ++ more;
  number = l.number;
  are = ap (λ xs. xs ++ more) l.are ∙ append_assoc l.before (l.line ∷ l.after) more;
  says = l.says;
  behind = l.behind;
}

said_lined : (bs : List Body) (M : Moment) → AreLined M → AreLined (said bs M)
said_lined bs M r = record {
  lined = λ p h a i is. ⊎_elim (λ same. inl same)
      (λ l. inr (lined_more M.past.askings M.seen.lines (numbered M.past.number bs) p h l)) (r.lined p h a i is);
  asked = λ k i. further (let e = k.asked in e.at) (r.asked k i);
}
  where
    longer : (n a b c : ℕ) → n ≤ a → c ≡ a + b → n ≤ c
    longer n a b c low is = omega (arith, low, is)

    further : (n : ℕ) → n ≤ length M.seen.lines → n ≤ length (M.seen.lines ++ numbered M.past.number bs)
    further n low = longer n (length M.seen.lines) (length (numbered M.past.number bs))
        (length (M.seen.lines ++ numbered M.past.number bs)) low
        (length-append M.seen.lines (numbered M.past.number bs))

sent_lined : (p : Post) (M : Moment) → AreLined M → AreLined (sent p M)
sent_lined p M r = by (p.to == p.from) refl (fits M)
  where
    new : (h : Head) → IsLined M.past.askings (let N = framed_if true p M in N.seen.lines) p h
    new h = record {
      before = M.seen.lines;
      line = record { event = M.past.number; body = body.Sent (M.past.frames + 1) p.from p.to (frame_kind p.message) };
      after = [];
      number = M.past.frames + 1;
      are = refl;
      says = refl;
      behind = λ k i act first. r.asked k i;
    }

    by : (self : Bool) → (p.to == p.from) ≡ self → (fit : Bool) → AreLined (if self then posted p M else framed_if fit p M)
    by true same fit = record { lined = one; asked = r.asked }
      where
        one : (q : Post) (h : Head) (a : Ask) → In q (p ∷ M.seen.sent) → asks q.message ≡ Some (h, a) →
            (q.from ≡ q.to) ⊎ IsLined M.past.askings M.seen.lines q h
        one q h a (inl is) asking = inl (subst (λ (z : Post). z.from ≡ z.to) is (sym (eqb-true p.to p.from same)))
        one q h a (inr i) asking = r.lined q h a i asking
    by false apart true =
        let o = said_lined (body.Sent (M.past.frames + 1) p.from p.to (frame_kind p.message) ∷ []) M r in
        record { lined = one o.lined; asked = o.asked }
      where
        one : ((q : Post) (h : Head) (a : Ask) → In q M.seen.sent → asks q.message ≡ Some (h, a) →
            (q.from ≡ q.to) ⊎ IsLined M.past.askings (let N = framed_if true p M in N.seen.lines) q h) →
            (q : Post) (h : Head) (a : Ask) → In q (p ∷ M.seen.sent) → asks q.message ≡ Some (h, a) →
            (q.from ≡ q.to) ⊎ IsLined M.past.askings (let N = framed_if true p M in N.seen.lines) q h
        one old q h a (inl is) asking = inr
            (subst (λ (z : Post). IsLined M.past.askings (let N = framed_if true p M in N.seen.lines) z h) is (new h))
        one old q h a (inr i) asking = old q h a i asking
    by false apart false = r

-- whatever a node does
walk : (k : ℕ) (v : Parts) (outs : List Effect) (d : Disk) (M : Moment) → AreLined M → WalksWith AreLined k outs (UpWith AreLined k v) d M
walk k v [] d M r = record { lined = r.lined; asked = r.asked }
walk k v (Do w ∷ es) d M r = (
  (λ how. let s = said_lined (body.Halted k ∷ []) M r in record { lined = s.lined; asked = s.asked }),
  walk k v es (worked w d) M r,
)
walk k v (Say b ∷ es) d M r = walk k v es d (said (b ∷ []) M) (said_lined (b ∷ []) M r)
walk k v (Send to m ∷ es) d M r = walk k v es d (sent (post k to m) M) (sent_lined (post k to m) M r)

-- ---- who is asked anew

some_is : {A : Type 0} {a b : A} → Some a ≡ Some b → a ≡ b
some_is {A} {a} {b} is = let k : ◌≡◌ {A = Option A} (Some a) (Some b) = is in cc

module _ (k : ℕ) (d : Disk) (t : Parts) (M : Moment) (known : Wide Known (up k d t M)) (r : AreLined (up k d t M)) where
  there : (let S = up k d t M in S.seen.nodes k) ≡ Some (record { number = k; disk = d; live = Some t })
  there = λ i. cond (same_number k i) (Some (record { number = k; disk = d; live = Some t })) (M.seen.nodes k)

  good : IsGoodOf known.2.0.0.0.0 (seen.with_sent known.0 (up k d t M).seen)
  good = known.2.0.0.0.1

  tree : IsTree (paths_of known.2.0.0.0.0)
  tree = begun_tree known.2.0.0.0.0 good.begun

  its_up : IsUp known.2.0.0.0.0 known.0 M.seen.labels k d.inc t
  its_up = let p = good.places k (record { number = k; disk = d; live = Some t }) there in p.memory

  its_coord : IsGoodCoord known.2.0.0.0.0 (paths_of known.2.0.0.0.0) t.coord
  its_coord = let u = its_up in let g = u.good (paths_of known.2.0.0.0.0) tree (path_found known.2.0.0.0.0 good.begun) in g.coord

  -- no request that was sent is of the action that is asked, with a number as high as its next one
  asked_new : (l : Label) (b : Branch) → branch_named l t.coord ≡ Some b → (p : Post) (h : Head) (a : Ask) → In p M.seen.sent →
      asks p.message ≡ Some (h, a) → (let q = asking_of l t.coord M.past.run M.past.event in q.act) ≡ actor h.path →
      (let q = asking_of l t.coord M.past.run M.past.event in q.first) ≤ h.req → ⊥
  asked_new l b named p h a sent_it is act first =
      too_high (doing_of (actor h.path) t.coord) by.doing by.found (sym (ap (λ u. doing_of u t.coord) act)) by.low first
    where
      actor_is : actor b.path ≡ actor h.path
      actor_is = sym (ap found_act named) ∙ act

      own_found : (w : Uid) (b : Branch) → branch_of w t.coord.tree ≡ Some b → is_own w t.coord.tree ≡ true
      own_found w b found = one (is_own w t.coord.tree) refl found
        where
          one : (c : Bool) → is_own w t.coord.tree ≡ c → cond c (at_place w.num t.coord.tree.branches) None ≡ Some b →
              is_own w t.coord.tree ≡ true
          one true same f = same
          one false same f = absurd (cc f)

      own : is_own (actor h.path) t.coord.tree ≡ true
      own = subst (λ w. is_own w t.coord.tree ≡ true) actor_is (own_found (actor b.path) b
          (named_found known.2.0.0.0.0 (paths_of known.2.0.0.0.0) tree d.intents t.coord its_coord l b named))

      from_here : p.from ≡ k
      from_here = sym (known.2.1.1.0 p h a (known.1 p sent_it) is)
          ∙ (eqb-true (actor h.path).node t.coord.tree.node (and_parts ((actor h.path).node == t.coord.tree.node)
          ((actor h.path).inc == t.coord.tree.inc) own).0 ∙ (let w = its_up in w.node))

      by : IsAskedBy t.coord p.to h a
      by = known.2.0.1 k (record { number = k; disk = d; live = Some t }) t there refl p h a (known.1 p sent_it) from_here is own

      too_high : (o : Option Doing) (q : Doing) → o ≡ Some q → o ≡ doing_of (found_act (branch_named l t.coord)) t.coord → h.req ≤ q.req →
          last_req (doing_of (found_act (branch_named l t.coord)) t.coord) + 1 ≤ h.req → ⊥
      too_high o q found same low high =
          let last : last_req (doing_of (found_act (branch_named l t.coord)) t.coord) ≡ q.req = ap last_req (sym same ∙ found) in
          omega (arith, last, low, high)

  -- the event asks the action of a label
  asks_lined : (l : Label) (b : Branch) → branch_named l t.coord ≡ Some b → IsFirst M →
      AreLined (record M { past = record M.past { askings = asking_of l t.coord M.past.run M.past.event ∷ M.past.askings } })
  asks_lined l b named first = record {
    lined = λ p h a i is. ⊎_elim (λ same. inl same) (λ x. inr (record {
      before = x.before;
      line = x.line;
      after = x.after;
      number = x.number;
      are = x.are;
      says = x.says;
      behind = behind p h a i is x;
    })) (r.lined p h a i is);
    asked = asked;
  }
    where
      q : Asking
      q = asking_of l t.coord M.past.run M.past.event

      behind : (p : Post) (h : Head) (a : Ask) → In p M.seen.sent → asks p.message ≡ Some (h, a) →
          (x : IsLined M.past.askings M.seen.lines p h) → (j : Asking) →
          list.In j (asking_of l t.coord M.past.run M.past.event ∷ M.past.askings) → j.act ≡ actor h.path → j.first ≤ h.req →
          (let e = j.asked in e.at) ≤ length x.before
      behind p h a i is x j (inl same) act high = absurd (asked_new l b named p h a i is (ap (λ (z : Asking). z.act) same ∙ act)
          (subst (λ (z : Asking). z.first ≤ h.req) (sym same) high))
      behind p h a i is x j (inr old) act high = x.behind j old act high

      low : (m n : ℕ) → m ≡ n → m ≤ n
      low m n is = omega (arith, is)

      asked : (j : Asking) → list.In j (asking_of l t.coord M.past.run M.past.event ∷ M.past.askings) →
          (let e = j.asked in e.at) ≤ length M.seen.lines
      asked j (inl same) = subst (λ (z : Asking). (let e = z.asked in e.at) ≤ length M.seen.lines) same
          (low (length (let u = M.past.run in u.lines)) (length M.seen.lines) (ap (λ (ls : List Line). length ls) first))
      asked j (inr old) = r.asked j old

  plain : AreLined M
  plain = record { lined = r.lined; asked = r.asked }

  act_lined : (hd : Header) (i : Input) → IsFirst M → refusal_up hd i t.coord ≡ None → AreLined (asks_now i t.coord M)
  act_lined hd (input.Call l x o) first free = by (branch_named l t.coord) refl free
    where
      by : (b : Option Branch) → branch_named l t.coord ≡ b → refused_by (call_reasons hd x o) t.coord b ≡ None →
          AreLined (asks_now (input.Call l x o) t.coord M)
      by None named none = absurd (cc none)
      by (Some b) named none = asks_lined l b named first
  act_lined hd (input.Include l x s) first free = by (branch_named l t.coord) refl free
    where
      by : (b : Option Branch) → branch_named l t.coord ≡ b → refused_by (include_reasons hd x) t.coord b ≡ None →
          AreLined (asks_now (input.Include l x s) t.coord M)
      by None named none = absurd (cc none)
      by (Some b) named none = asks_lined l b named first
  act_lined hd (input.Commit l) first free = by (branch_named l t.coord) refl free
    where
      by : (b : Option Branch) → branch_named l t.coord ≡ b → refused_by commit_reasons t.coord b ≡ None →
          AreLined (asks_now (input.Commit l) t.coord M)
      by None named none = absurd (cc none)
      by (Some b) named none = asks_lined l b named first
  act_lined hd (input.Begin l how p) first free = plain
  act_lined hd (input.Abort l) first free = plain
  act_lined hd (input.GiveUp l) first free = plain
  act_lined hd (input.Frame f from m) first free = plain
  act_lined hd input.Tick first free = plain
  act_lined hd input.Restart first free = plain
  act_lined hd input.Crash first free = plain
  act_lined hd (input.Show x) first free = plain

-- ---- every handler

-- requests are known, and have their lines
abbrev pub Both : Moment → Type 0
Both M = Wide Known M × AreLined M

pub lined_keep : (hd : Header) → KeepsAll hd (λ M. Wide Known M × AreLined M)
lined_keep hd = record {
  opens = λ e M first number h. (wide.opens e M first number h.0, record { lined = h.1.lined; asked = h.1.asked });
  closes = λ bodies M number lines h. (wide.closes bodies M number lines h.0, record { lined = h.1.lined; asked = h.1.asked });
  steps = record {
    quiet = λ bs M plain h. (wide.steps.quiet bs M plain h.0, said_lined bs M h.1);
    junk = λ n M fit h. (
      wide.steps.junk n M fit h.0,
      (let s = said_lined (body.Sent (M.past.frames + 1) 0 n frame.Junk ∷ []) M h.1 in record { lined = s.lined; asked = s.asked }),
    );
    stop = λ k d live M h. (
      wide.steps.stop k d live M h.0,
      (let s = said_lined (body.Halted k ∷ []) M
          (record { lined = h.1.lined; asked = h.1.asked }) in record { lined = s.lined; asked = s.asked }),
    );
    message = λ k d t v from m outs M h there meant may is. both k outs v d M
        (wide.steps.message k d t v from m outs M h.0 there meant may is)
        (walk k v outs d M (record { lined = h.1.lined; asked = h.1.asked }));
    act = λ k d t i M is brings first asks free h. let did = acts i d.intents t.coord in
        both k did.outs (with_coord t did.part) d (asks_now i t.coord M) (wide.steps.act k d t i M is brings first asks free h.0)
        (walk k (with_coord t did.part) did.outs d (asks_now i t.coord M) (act_lined k d t M h.0 h.1 hd i first free));
    begin = λ k d t l how parent M brings first new gives none h.
        let did = begin_action l how parent (parent_of parent t.coord) t.coord in
        let N = given l (record { node = k; serial = is_serial how }) M in
        both k did.outs (with_coord t did.part) d N (wide.steps.begin k d t l how parent M brings first new gives none h.0)
        (walk k (with_coord t did.part) did.outs d N (record { lined = h.1.lined; asked = h.1.asked }));
    tick = λ k d t M h.
        let v = with_coord t (again_all t.coord.doings t.coord).part in
        let outs = tick_outs (record { number = k; disk = d; live = Some t }) t in
        both k outs v d M (wide.steps.tick k d t M h.0) (walk k v outs d M (record { lined = h.1.lined; asked = h.1.asked }));
    restart = λ k d M event first h. let v = parts_in k (d.inc + 1) d in
        both k (restart_outs hd k (d.inc + 1) d) v d M (wide.steps.restart k d M event first h.0)
        (walk k v (restart_outs hd k (d.inc + 1) d) d M (record { lined = h.1.lined; asked = h.1.asked }));
  };
  first = λ st formed. (
    ([], (λ p i. i), wide.first st formed),
    record { lined = λ p h a i is. absurd i; asked = λ k i. absurd i },
  );
}
  where
    wide : KeepsWith hd (IsAtStarts hd Known) (Wide Known)
    wide = known_wide hd

    both : (k : ℕ) (outs : List Effect) (v : Parts) (d : Disk) (M : Moment) → WalksWith (Wide Known) k outs (UpWith (Wide Known) k v) d M →
        WalksWith AreLined k outs (UpWith AreLined k v) d M →
        WalksWith (λ N. Wide Known N × AreLined N) k outs (UpWith (λ N. Wide Known N × AreLined N) k v) d M
    both k outs v d M a b = with_both (Wide Known) AreLined k outs (UpWith (Wide Known) k v) (UpWith AreLined k v) d M a b
