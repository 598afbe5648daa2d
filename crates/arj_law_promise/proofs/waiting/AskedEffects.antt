-- What nodes put out, one effect after another: what was asked stays asked, and what is said of bindings stays so.
use Rattle.arj_law_parts.proofs.Words
use Words.{ℕ, Bool, List, None, Option, Some, [], ap, arith, cond, eqb-true, false, inl, inr, map, refl, subst, sym, true}
use Words.{⊎_elim, ◌++◌, ◌==◌, ◌∙◌, ◌∷◌, ◌≡◌, ◌≢◌, ◌≤◌, ◌⊎◌, ⊤, AllByRecursion, Asked, Binding, Body}
use Words.{Head, Header, Kind, Label, Message, ObjectState, Path, Uid, asks, Reply, answers, top_of}
use Words.{again_all, heard, Abort, Commit, Disk, Do, Effect, Look, Pair, Prepare, PutInc, PutIntent}
use Words.{RemoveIntent, Say, Send, Stop, stopped, worked, acked, answer_query, tick_outs, Naming, Parts}
use Words.{holders}
use Words.{query_about, Input, Node, acts as acts_of}
use Words.{naming_at, refusal_up, tolds_again}
use Words.{numbered, acked_own, acts_own, again_own, heard_own, query_own, tolds_again_own, Post, Seen}
use Words.{IsSaid, recovered_naming}
use Words.ask
use Words.loaded
use Words.input
use Words.bound
use Words.body
use Rattle.arj_law_promise.proofs.Terms
use Terms.{Action, paths_of, IsGoodCoord, IsTree, begun_tree, true_query, well_acked, well_acts, well_again, well_heard, IsGoodOf}
use Terms.{good_coord, it, own_of_disk, tops_of_disk, other_number, same_number, is_act, In, at, down, posted, said, up, Up, Walks}
use Terms.{halted, some_is, node_here, AllQuiet, ActivateNamed, Claims, MadeWasSaid}
use Terms.{ReplyWasAsked, ServerWasAsked, StandsIn, StepsNamed, WasMade, WereAsked}
use Rattle.arj_law_lock_view.proofs.records
use records.{NamingRuns.inc_stopped, NamingRuns.inc_worked}
use records.Quiet.{AllSaid, IncsUp, coord_quiet, queries, quiet_both}
use Rattle.arj_law_parts.proofs.parts.{TrueSteps.true_records}
use Rattle.arj_law_parts.specs.parts.Incs.{AreOfInc}
use Rattle.arj_law_promise.proofs.waiting
use waiting.AskedServers.{server_more}
use waiting.Made.{SaidIn, back_made_said, line_new, line_stays, made_more}
use waiting.Named.{by_more, named_more}
use waiting.Named.{steps_more}
use waiting.Standing.{Goes}
use Rattle.arj_law_promise.specs.waiting.Asked.{IsPlaced, StandsAt}

-- ---- what coordinators send answers nobody

module _ (begun : List Action) (e k : ℕ) (d : Disk) (t : Parts) (M : Seen) (good : IsGoodOf begun (up k d t M)) where
  pub tree : IsTree (paths_of begun)
  tree = begun_tree begun good.begun

  pub its_coord : IsGoodCoord begun (paths_of begun) t.coord
  its_coord = good_coord e k d t M (begun, good)

  pub heard_quiet : (from : ℕ) (a : Asked) (r : Reply) → AllQuiet (heard from a r d.intents t.coord).outs
  heard_quiet from a r = coord_quiet (heard from a r d.intents t.coord).part (heard from a r d.intents t.coord).outs
      (well_heard begun (paths_of begun) tree from a r d.intents t.coord its_coord).1 (heard_own from a r d.intents t.coord)

  pub acked_quiet : (from : ℕ) (u : Uid) → AllQuiet (acked from u d.intents t.coord).outs
  acked_quiet from u = coord_quiet (acked from u d.intents t.coord).part (acked from u d.intents t.coord).outs
      (well_acked begun (paths_of begun) tree from u d.intents t.coord).1 (acked_own from u d.intents t.coord)

  pub query_quiet : (from : ℕ) (u : Uid) → AllQuiet (answer_query from u d.intents t.coord)
  query_quiet from u = coord_quiet t.coord (answer_query from u d.intents t.coord) (true_query begun (paths_of begun) tree from u d.intents
      t.coord (tops_of_disk e k d t M (begun, good)) (own_of_disk e k d t M (begun, good)) its_coord) (query_own from u d.intents t.coord)

  pub acts_quiet : (hd : Header) (i : Input) → is_act i ≡ true → refusal_up hd i t.coord ≡ None →
      AllQuiet (let r = acts_of i d.intents t.coord in r.outs)
  acts_quiet hd i is free =
      let r = acts_of i d.intents t.coord in
      let u = it e k d t M (begun, good) in
      coord_quiet r.part r.outs (well_acts begun (paths_of begun) tree d.intents t.coord its_coord (let f = u.faithful in
      f.works) hd i free other).1 (acts_own i d.intents t.coord)
    where
      other : (l : Label) (how : Kind) (parent : Option Label) → i ≢ input.Begin l how parent
      other l how parent same = let no_way : false ≡ true = sym (ap is_act same) ∙ is in cc no_way

  pub tick_quiet : AllQuiet (tick_outs (record { number = k; disk = d; live = Some t }) t)
  tick_quiet =
      let r = again_all t.coord.doings t.coord in
      let u = it e k d t M (begun, good) in
      let tolds = tolds_again t.coord.telling in
      quiet_both (r.outs ++ tolds) (map query_about (holders d t)) (quiet_both r.outs tolds
      (coord_quiet r.part r.outs (well_again begun (paths_of begun) tree t.coord its_coord).1 (again_own t.coord.doings t.coord))
      (coord_quiet t.coord tolds (true_records t.coord u.faithful) (tolds_again_own t.coord.telling))) (queries (holders d t))

-- ---- more was sent, and more was said

module _ (few many : List Post) (in_it : (p : Post) → In p few →
    In p many) (less more : Claims) (grows : (p : Path) (x : ℕ) (b : Binding) (s g : ℕ) → less p x b s g → more p x b s g) where
  reply_more : (p : Post) (a : Asked) (r : Reply) → ReplyWasAsked few less p a r → ReplyWasAsked many more p a r
  reply_more p a (Reply.Loaded (loaded.State st)) w = (w.0, w.1, by_more few many in_it p a w.0 (ask.Load w.1) w.2, w.3)
  reply_more p a (Reply.Loaded (loaded.InDoubt h)) w = tt
  reply_more p a (Reply.Bound (bound.Make b server g stores)) w =
      (w.0, w.1, w.2, w.3, by_more few many in_it p a w.0 (ask.Bind w.1 w.2 w.3) w.4, grows w.0.path w.1 b server g w.5)
  reply_more p a (Reply.Bound (bound.Live b server i g stores)) w = tt
  reply_more p a (Reply.Bound (bound.Write g stores)) w = tt
  reply_more p a (Reply.Bound (bound.Conflict h m)) w = tt
  reply_more p a (Reply.Activated i) w = tt
  reply_more p a (Reply.Noted r) w = tt
  reply_more p a (Reply.Invoked r) w = tt
  reply_more p a (Reply.Voted r) w = tt
  reply_more p a (Reply.Prepared r) w = tt
  reply_more p a (Reply.Confirmed r) w = tt

  activate_more : (h : Head) (b : Binding) (st : ObjectState) → ActivateNamed few less h b st → ActivateNamed many more h b st
  activate_more h b st w = (w.0, named_more few many in_it less more grows h.path st.uid.num b w.0 w.1)

-- ---- one node apart from the others

abbrev Replies : List Post → Claims → Type 0
Replies sent claims = (p : Post) (a : Asked) (r : Reply) → In p sent → answers p.message ≡ Some (a, r) → ReplyWasAsked sent claims p a r

abbrev Activates : List Post → Claims → Type 0
Activates sent claims = (p : Post) (h : Head) (b : Binding) (st : ObjectState) → In p sent → asks p.message ≡ Some (h, ask.Activate b st) →
    ActivateNamed sent claims h b st

-- what is known of a node that is up
abbrev pub PartsSo : List Post → (Body → Type 0) → Claims → Parts → Type 0
PartsSo sent lines claims t = (ServerWasAsked sent t.server × StepsNamed sent claims t.coord) × MadeWasSaid lines t.naming

-- whatever is sent, said and made besides
pub record IsMore (few many : List Post) (less more : Body → Type 0) (old new : Claims) : Type 0 where
  pub sent : (p : Post) → In p few → In p many
  pub said : (z : Body) → less z → more z
  pub made : (p : Path) (x : ℕ) (b : Binding) (s g : ℕ) → old p x b s g → new p x b s g

parts_more : (few many : List Post) (less more : Body → Type 0) (old new : Claims) → IsMore few many less more old new → (t : Parts) →
    PartsSo few less old t → PartsSo many more new t
parts_more few many less more old new m t w = (
  (server_more few many m.sent t.server w.0.0, steps_more few many m.sent old new m.made t.coord w.0.1),
  made_more less more m.said t.naming w.1,
)

abbrev Others : ℕ → Seen → (Body → Type 0) → Claims → Type 0
Others k M lines claims = (j : ℕ) (n : Node) (t : Parts) → (j ≡ k → ⊥) → M.nodes j ≡ Some n → n.live ≡ Some t →
    PartsSo M.sent lines claims t × IsPlaced j (let d = n.disk in d.inc) t.naming

pub others_of : (k : ℕ) (d : Disk) (live : Option Parts) (M : Seen) → WereAsked (at k d live M) →
    Others k M (IsSaid M.lines) (WasMade (at k d live M))
others_of k d live M all j n t apart is live_is =
    let found = (λ i. cond (other_number j k apart i) (Some (record { number = k; disk = d; live = live })) (M.nodes j)) ∙ is in
    (((all.servers j n t found live_is, all.steps j n t found live_is), all.namings j n t found live_is), all.places j n t found live_is)

pub own_of : (k : ℕ) (d : Disk) (t : Parts) (M : Seen) → WereAsked (up k d t M) →
    PartsSo M.sent (IsSaid M.lines) (WasMade (up k d t M)) t × IsPlaced k d.inc t.naming
own_of k d t M all = let here = node_here M k (record { number = k; disk = d; live = Some t }) in
    let n : Node = record { number = k; disk = d; live = Some t } in
    (((all.servers k n t here refl, all.steps k n t here refl), all.namings k n t here refl), all.places k n t here refl)

-- What is known, with these lines and claims: of the node itself, of the others, and of what was sent.
pub record AreSo (k : ℕ) (live : Option Parts) (M : Seen) (lines : Body → Type 0) (claims : Claims) : Type 0 where
  pub its : (t : Parts) → live ≡ Some t → PartsSo M.sent lines claims t
  pub others : Others k M lines claims
  pub replies : Replies M.sent claims
  pub activates : Activates M.sent claims

pub back : (k : ℕ) (d : Disk) (live : Option Parts) (M : Seen) → AreSo k live M (IsSaid M.lines) (WasMade (at k d live M)) →
    ((t : Parts) → live ≡ Some t → IsPlaced k d.inc t.naming) → WereAsked (at k d live M)
back k d live M so placed = record {
  replies = so.replies;
  activates = so.activates;
  servers = λ j n t is live_is. (by j n t (j == k) refl is live_is).0.0.0;
  steps = λ j n t is live_is. (by j n t (j == k) refl is live_is).0.0.1;
  namings = λ j n t is live_is. (by j n t (j == k) refl is live_is).0.1;
  places = λ j n t is live_is. (by j n t (j == k) refl is live_is).1;
}
  where
    by : (j : ℕ) (n : Node) (t : Parts) (b : Bool) → (j == k) ≡ b →
        cond b (Some (record { number = k; disk = d; live = live })) (M.nodes j) ≡ Some n → n.live ≡ Some t →
        PartsSo M.sent (IsSaid M.lines) (WasMade (at k d live M)) t × IsPlaced j (let e = n.disk in e.inc) t.naming
    by j n t true same e live_is =
        let here : record { number = k; disk = d; live = live } ≡ n = some_is e in
        let its_live = ap (λ (z : Node). z.live) here ∙ live_is in (
          so.its t its_live,
          subst (λ (z : Node). IsPlaced j (let e = z.disk in e.inc) t.naming) here
              (subst (λ i. IsPlaced i d.inc t.naming) (sym (eqb-true j k same)) (placed t its_live)),
        )
    by j n t false apart e live_is = so.others j n t
        (λ same. let no_way : true ≡ false = sym (ap (λ z. z == k) same ∙ same_number k) ∙ apart in absurd (cc no_way)) e live_is

-- where more was said and made it stays so
pub so_more : (k : ℕ) (live : Option Parts) (M : Seen) (less more : Body → Type 0) → ((z : Body) → less z → more z) → (old new : Claims) →
    ((p : Path) (x : ℕ) (b : Binding) (s g : ℕ) → old p x b s g → new p x b s g) → AreSo k live M less old → AreSo k live M more new
so_more k live M less more grows old new makes so = record {
  its = λ t is. parts_more M.sent M.sent less more old new m t (so.its t is);
  others = λ j n t apart is live_is. let o = so.others j n t apart is live_is in (parts_more M.sent M.sent less more old new m t o.0, o.1);
  replies = λ p a r i is. reply_more M.sent M.sent (λ p i. i) old new makes p a r (so.replies p a r i is);
  activates = λ p h b st i is. activate_more M.sent M.sent (λ p i. i) old new makes h b st (so.activates p h b st i is);
}
  where
    m : IsMore M.sent M.sent less more old new
    m = record { sent = λ p i. i; said = grows; made = makes }

-- what is said more changes nothing
pub quiet_asked : (e : ℕ) (bs : List Body) (M : Seen) → WereAsked M → WereAsked (said e bs M)
quiet_asked e bs M p = record {
  replies = λ q a r i is. reply_more M.sent M.sent (λ p i. i) (WasMade M) (WasMade (said e bs M)) makes q a r (p.replies q a r i is);
  activates =
      λ q h b st i is. activate_more M.sent M.sent (λ p i. i) (WasMade M) (WasMade (said e bs M)) makes h b st (p.activates q h b st i is);
  servers = p.servers;
  steps = λ j n t is live. steps_more M.sent M.sent (λ p i. i) (WasMade M) (WasMade (said e bs M)) makes t.coord (p.steps j n t is live);
  namings = λ j n t is live. made_more (IsSaid M.lines) (IsSaid (M.lines ++ numbered e bs)) grows t.naming (p.namings j n t is live);
  places = p.places;
}
  where
    grows : (z : Body) → IsSaid M.lines z → IsSaid (M.lines ++ numbered e bs) z
    grows z s = line_stays M.lines (numbered e bs) z s

    makes : (p : Path) (x : ℕ) (b : Binding) (s g : ℕ) → WasMade M p x b s g → WasMade (said e bs M) p x b s g
    makes p x b s g w = (grows (body.Bound x b s) w.0, w.1)

-- what an effect answers was asked for, and for which copy it asks naming answered
abbrev pub Fine : List Post → Claims → ℕ → Effect → Type 0
Fine sent claims k (Send to m) =
    ((a : Asked) (r : Reply) → answers m ≡ Some (a, r) → ReplyWasAsked sent claims (record { from = k; to = to; message = m }) a r)
    × ((h : Head) (b : Binding) (st : ObjectState) → asks m ≡ Some (h, ask.Activate b st) → ActivateNamed sent claims h b st)
Fine sent claims k (Say b) = ⊤
Fine sent claims k (Do w) = ⊤

-- one more is sent
sent_so : (base : List Post) (lines : Body → Type 0) (claims : Claims) (k : ℕ) (live : Option Parts) (M : Seen) →
    ((p : Post) → In p base → In p M.sent) → (to : ℕ) (m : Message) → Fine base claims k (Send to m) → AreSo k live M lines claims →
    AreSo k live (posted (record { from = k; to = to; message = m }) M) lines claims
sent_so base lines claims k live M within to m fine so = record {
  its = λ t is. parts_more M.sent (post ∷ M.sent) lines lines claims claims one t (so.its t is);
  others = λ j n t apart is live_is. let o = so.others j n t apart is live_is in
      (parts_more M.sent (post ∷ M.sent) lines lines claims claims one t o.0, o.1);
  replies =
      λ p a r i is. ⊎_elim (λ same. subst (λ (q : Post). ReplyWasAsked (post ∷ M.sent) claims q a r) same (reply_more base (post ∷ M.sent)
      (λ q j. inr (within q j)) claims claims (λ p x b s g c. c) post a r (fine.0 a r (ap (λ (q : Post). answers q.message) same ∙ is))))
      (λ old. reply_more M.sent (post ∷ M.sent) older claims claims (λ p x b s g c. c) p a r (so.replies p a r old is)) i;
  activates = λ p h b st i is. ⊎_elim (λ same. activate_more base (post ∷ M.sent) (λ q j. inr (within q j)) claims claims (λ p x b s g c. c)
      h b st (fine.1 h b st (ap (λ (q : Post). asks q.message) same ∙ is)))
      (λ old. activate_more M.sent (post ∷ M.sent) older claims claims (λ p x b s g c. c) h b st (so.activates p h b st old is)) i;
}
  where
    post : Post
    post = record { from = k; to = to; message = m }

    older : (p : Post) → In p M.sent → In p (post ∷ M.sent)
    older p i = inr i

    one : IsMore M.sent (post ∷ M.sent) lines lines claims claims
    one = record { sent = older; said = λ z s. s; made = λ p x b s g c. c }

-- lines alone change nothing
said_so : (k : ℕ) (live : Option Parts) (e : ℕ) (bs : List Body) (M : Seen) (lines : Body → Type 0) (claims : Claims) →
    AreSo k live M lines claims → AreSo k live (said e bs M) lines claims
said_so k live e bs M lines claims so = record { its = so.its; others = so.others; replies = so.replies; activates = so.activates }

-- a stop leaves the others
halted_so : (k : ℕ) (t : Parts) (M : Seen) (lines : Body → Type 0) (claims : Claims) → AreSo k (Some t) M lines claims →
    AreSo k None M lines claims
halted_so k t M lines claims so =
    record { its = λ v is. absurd (cc is); others = so.others; replies = so.replies; activates = so.activates }

-- ---- bindings that stand, while a node goes on

-- what it has made stands at its naming, and at that of another node
pub record Stands (k inc : ℕ) (o : Option Naming) (nodes : ℕ → Option Node) (p : Path) (x : ℕ) (b : Binding) (g : ℕ) : Type 0 where
  pub here : k ≡ 1 → (g ≤ inc) × ((n : Naming) → o ≡ Some n → g ≡ n.inc → StandsIn n (top_of p) x b)
  pub there : (k ≡ 1 → ⊥) → (n : Node) → nodes 1 ≡ Some n → StandsAt n p x b g

abbrev pub Made : (Body → Type 0) → ℕ → ℕ → Option Naming → (ℕ → Option Node) → Claims
Made lines k inc o nodes p x b s g = lines (body.Bound x b s) × Stands k inc o nodes p x b g

-- so it is of the disk on which it goes on
was_made : (lines : Body → Type 0) (k inc : ℕ) (o : Option Naming) (d : Disk) (live : Option Parts) (M : Seen) →
    ((z : Body) → lines z → IsSaid M.lines z) → inc ≤ d.inc → ((t : Parts) → live ≡ Some t → t.naming ≡ o) →
    (p : Path) (x : ℕ) (b : Binding) (s g : ℕ) → Made lines k inc o M.nodes p x b s g → WasMade (at k d live M) p x b s g
was_made lines k inc o d live M were low its p x b s g c = (were (body.Bound x b s) c.0, λ n found. by (1 == k) refl n found)
  where
    up_to : (a b c : ℕ) → a ≤ b → b ≤ c → a ≤ c
    up_to a b c x y = omega (arith, x, y)

    by : (is : Bool) → (1 == k) ≡ is → (n : Node) → cond is (Some (record { number = k; disk = d; live = live })) (M.nodes 1) ≡ Some n →
        StandsAt n p x b g
    by true same n found =
        let h = c.1.here (sym (eqb-true 1 k same)) in
        subst (λ (z : Node). StandsAt z p x b g) (some_is found) (record {
          low = up_to g inc d.inc h.0 low;
          stands = λ t n live_is naming_is ours. h.1 n (sym (its t live_is) ∙ naming_is) ours;
        })
    by false apart n found = c.1.there (λ one. let no_way : true ≡ false = sym (ap (λ z. 1 == z) one) ∙ apart in absurd (cc no_way)) n found

-- All of it is of lines that were said before, and of bindings that were made before.
pub walk : (base : List Post) (lines : Body → Type 0) (inc e k : ℕ) (v : Parts) (outs : List Effect) (d : Disk) (M : Seen) → ((p : Post) →
    In p base → In p M.sent) → ((z : Body) → lines z → IsSaid M.lines z) → IsPlaced k inc v.naming → inc ≤ d.inc → IncsUp inc outs
    → AllByRecursion (Fine base (Made lines k inc v.naming M.nodes) k) outs →
    AreSo k (Some v) M lines (Made lines k inc v.naming M.nodes) → Walks WereAsked e k outs (Up WereAsked k v) d M
walk base lines inc e k v [] d M within were placed low incs fine so =
    back k d (Some v) M (so_more k (Some v) M lines (IsSaid M.lines) were (Made lines k inc v.naming M.nodes) (WasMade (up k d v M))
    (was_made lines k inc v.naming d (Some v) M were low (λ t is. ap (λ (z : Parts). z.naming) (sym (some_is is)))) so)
    (λ t is n there. let q = placed n (ap (λ (z : Parts). z.naming) (some_is is) ∙ there) in (q.0, up_to n.inc inc d.inc q.1 low))
  where
    up_to : (a b c : ℕ) → a ≤ b → b ≤ c → a ≤ c
    up_to a b c x y = omega (arith, x, y)
walk base lines inc e k v (Do w ∷ es) d M within were placed low incs fine so =
    (λ how. stops how, walk base lines inc e k v es (worked w d) M within were placed (inc_worked inc w d incs.0 low) incs.1 fine.1 so)
  where
    stops : (how : Stop) → WereAsked (halted e k (stopped how w d) M)
    stops how = quiet_asked e (body.Halted k ∷ []) (down k (stopped how w d) M)
        (back k (stopped how w d) None M (so_more k None M lines (IsSaid M.lines) were (Made lines k inc v.naming M.nodes) (WasMade
        (down k (stopped how w d) M)) (was_made lines k inc v.naming (stopped how w d) None M were (inc_stopped inc how w d incs.0 low)
        (λ t is. absurd (cc is))) (halted_so k v M lines (Made lines k inc v.naming M.nodes) so)) (λ t is. absurd (cc is)))
walk base lines inc e k v (Say b ∷ es) d M within were placed low incs fine so =
    walk base lines inc e k v es d (said e (b ∷ []) M) within (λ z s. line_stays M.lines (numbered e (b ∷ [])) z (were z s)) placed low
    incs.1 fine.1 (said_so k (Some v) e (b ∷ []) M lines (Made lines k inc v.naming M.nodes) so)
walk base lines inc e k v (Send to m ∷ es) d M within were placed low incs fine so =
    λ more quiet. walk base lines inc e k v es d (said e more (posted (record { from = k; to = to; message = m }) M))
    (λ p i. inr (within p i)) (λ z s. line_stays M.lines (numbered e more) z (were z s)) placed low incs.1 fine.1
    (said_so k (Some v) e more (posted (record { from = k; to = to; message = m }) M) lines (Made lines k inc v.naming M.nodes)
    (sent_so base lines (Made lines k inc v.naming M.nodes) k (Some v) M within to m fine.0 so))

-- where all that is still to be said comes first
pub walk_lines : (base : List Post) (lines : Body → Type 0) (inc e k : ℕ) (v : Parts) (says behind : List Effect) (d : Disk) (M : Seen) →
    ((p : Post) → In p base → In p M.sent) → AllSaid says → ((z : Body) → lines z → IsSaid M.lines z ⊎ SaidIn says z) →
    IsPlaced k inc v.naming → inc ≤ d.inc → IncsUp inc behind
    → AllByRecursion (Fine base (Made lines k inc v.naming M.nodes) k) behind →
    AreSo k (Some v) M lines (Made lines k inc v.naming M.nodes) → Walks WereAsked e k (says ++ behind) (Up WereAsked k v) d M
walk_lines base lines inc e k v [] behind d M within none were placed low incs fine so =
    walk base lines inc e k v behind d M within (λ z s. ⊎_elim (λ old. old) (λ no. absurd no) (were z s)) placed low incs fine so
walk_lines base lines inc e k v (Say b ∷ es) behind d M within all were placed low incs fine so =
    walk_lines base lines inc e k v es behind d (said e (b ∷ []) M) within all.1 then placed low incs fine
    (said_so k (Some v) e (b ∷ []) M lines (Made lines k inc v.naming M.nodes) so)
  where
    then : (z : Body) → lines z → IsSaid (M.lines ++ numbered e (b ∷ [])) z ⊎ SaidIn es z
    then z s = ⊎_elim (λ old. inl (line_stays M.lines (numbered e (b ∷ [])) z old))
        (λ now. ⊎_elim (λ same. inl (line_new M.lines e b z same)) (λ late. inr late) now) (were z s)
walk_lines base lines inc e k v (Send to m ∷ es) behind d M within all were placed low incs fine so = absurd all.0
walk_lines base lines inc e k v (Do w ∷ es) behind d M within all were placed low incs fine so = absurd all.0

-- works that put no other incarnation
pub of_incs : (n i : ℕ) (outs : List Effect) → AreOfInc n i outs → IncsUp i outs
of_incs n i [] all = tt
of_incs n i (Say b ∷ es) all = (tt, of_incs n i es all.1)
of_incs n i (Send to m ∷ es) all = (tt, of_incs n i es all.1)
of_incs n i (Do (PutInc j) ∷ es) all = (le j i all.0, of_incs n i es all.1)
  where
    le : (a b : ℕ) → a ≡ b → b ≤ a
    le a b same = omega (arith, same)
of_incs n i (Do Look ∷ es) all = (tt, of_incs n i es all.1)
of_incs n i (Do (Prepare r u states) ∷ es) all = (tt, of_incs n i es all.1)
of_incs n i (Do (Commit r u) ∷ es) all = (tt, of_incs n i es all.1)
of_incs n i (Do (Abort r u) ∷ es) all = (tt, of_incs n i es all.1)
of_incs n i (Do (PutIntent u q) ∷ es) all = (tt, of_incs n i es all.1)
of_incs n i (Do (RemoveIntent u) ∷ es) all = (tt, of_incs n i es all.1)

-- what naming goes on to
abbrev pub NamingGoes : Option Naming → Option Naming → Type 0
NamingGoes o v = (m : Naming) → v ≡ Some m → (n : Naming) × (o ≡ Some n) × Goes n m

-- naming that starts has made no binding
pub start_made : (L : Body → Type 0) (k inc : ℕ) (d : Pair) → MadeWasSaid L (naming_at k inc d)
start_made L k inc d = by (k == 1)
  where
    by : (b : Bool) → MadeWasSaid L (cond b (Some (recovered_naming inc d)) None)
    by true = back_made_said L inc d
    by false = tt

pub start_inc : (k inc : ℕ) (d : Pair) (n : Naming) → naming_at k inc d ≡ Some n → n.inc ≡ inc
start_inc k inc d n is = by (k == 1) is
  where
    by : (b : Bool) → cond b (Some (recovered_naming inc d)) None ≡ Some n → n.inc ≡ inc
    by true same = ap (λ (z : Naming). z.inc) (sym (some_is same))
    by false same = absurd (cc same)

-- it is at node 1
pub start_placed : (k inc : ℕ) (d : Pair) → IsPlaced k inc (naming_at k inc d)
start_placed k inc d n is = (by (k == 1) refl is, subst (λ i. i ≤ inc) (sym (start_inc k inc d n is)) (omega arith))
  where
    by : (b : Bool) → (k == 1) ≡ b → cond b (Some (recovered_naming inc d)) None ≡ Some n → k ≡ 1
    by true one same = eqb-true k 1 one
    by false one same = absurd (cc same)

-- a stop leaves what was made
pub stop_so : (e k : ℕ) (d : Disk) (live : Option Parts) (M : Seen) → WereAsked (at k d live M) → WereAsked (halted e k d M)
stop_so e k d live M p = quiet_asked e (body.Halted k ∷ []) (down k d M) (back k d None M (so_more k None M (IsSaid M.lines)
    (IsSaid M.lines) (λ z s. s) (WasMade (at k d live M)) (WasMade (down k d M)) (λ q x b s g w. (w.0, stays q x b g w.1))
    (record { its = λ t is. absurd (cc is); others = others_of k d live M p; replies = p.replies; activates = p.activates }))
    (λ t is. absurd (cc is)))
  where
    stays : (q : Path) (x : ℕ) (b : Binding) (g : ℕ) → ((n : Node) → (let w = at k d live M in w.nodes) 1 ≡ Some n → StandsAt n q x b g) →
        (n : Node) → (let w = down k d M in w.nodes) 1 ≡ Some n → StandsAt n q x b g
    stays q x b g was n found = by (1 == k) refl found
      where
        by : (is : Bool) → (1 == k) ≡ is → cond is (Some (record { number = k; disk = d; live = None })) (M.nodes 1) ≡ Some n →
            StandsAt n q x b g
        by true same it = let w = was (record { number = k; disk = d; live = live })
            (λ i. cond (same i) (Some (record { number = k; disk = d; live = live })) (M.nodes 1)) in
            subst (λ (z : Node). StandsAt z q x b g) (some_is it) (record { low = w.low; stands = λ t o up_is. absurd (cc up_is) })
        by false apart it = was n ((λ i. cond (apart i) (Some (record { number = k; disk = d; live = live })) (M.nodes 1)) ∙ it)
