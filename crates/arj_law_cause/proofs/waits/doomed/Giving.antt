-- A call that waits for its operation and is given up dooms its action by the journal.
use Rattle.arj_law_parts.proofs.Words
use Words.{◌≡◌, ◌⊎◌, ◌∙◌, ◌+◌, ◌++◌, ◌==◌, ◌&&◌, ◌≤◌, ℕ, zero, suc, Bool, true, false, cond, List, [], ◌∷◌, filter}
use Words.{length, Option, Some}
use Words.{refl, sym, ap, subst, inl, inr, ⊎_elim, arith, nat_tests, nat_le, AllByRecursion, append-nil, append_assoc, filter-append}
use Words.{length-append, list_any, bytes_eq-Decides}
use Words.{eqb-true, and_parts, name, Ask, Head, Header, In, Kind, Label, Line, Message, Uid, Asked, asks, actor, ask_kind, frame_kind}
use Words.{is_serial, Doing, doing_of, Calling, Steps, At, AtActivate, AtBind, AtInvoke, AtLoad, AtNote, Goal, Run, is_invoke, next_node}
use Words.{at_place, kept_at, Branch, Node, Parts, Frame, Post, World, see}
use Words.body
use Words.calls
use Words.frame
use Words.kind
use Words.list
use Words.message
use Rattle.std.specs.Prelude.{drop}
use Rattle.arj_law_parts.specs.moves.Moments.{Asking, History}
use Rattle.arj_law_parts.specs.moves.Seen as seen
use Rattle.arj_law_runs.proofs.Terms
use Terms.{found_by, IsAsking, IsBusy, IsNumbered, IsSent, StandsOn}
use Rattle.arj_promise.specs.Runs.{HeaderFits}
use Rattle.arj_model.specs.CauseSpans.{is_call, is_frame, same_frame}
use Rattle.arj_model.specs.Past.{Asked as AskedOf, Past}
use Rattle.arj_model.specs.Refusals.{asks_by, is_ask_by, last_asked}
use Rattle.arj_law_lock_view.specs.asking.Asked.{IsAskedSo, IsTied, accepted_of, asks_goal}
use Rattle.arj_law_lock_view.specs.asking.Turns.{calling}
use Rattle.arj_law_cause.proofs.waits.waiting.Acting as acting
use Rattle.arj_law_cause.proofs.waits.waiting.Lists.{any_in}
use Rattle.arj_law_cause.proofs.waits.doomed.Lost.{IsDoomedSo, began_more}
use Rattle.arj_law_cause.proofs.waits.doomed.Sending.{HasFrame}
use Rattle.arj_law_cause.proofs.waits.doomed.Spans.{AreLined, IsLined}
use Rattle.arj_law_cause.proofs.waits.doomed.Standing.{Stands}
use Rattle.arj_law_cause.proofs.waits.doomed.Stepping.{IsFramed, framed_way}

-- ---- lists

-- what was asked by then is all that was asked
all_by : (n : ℕ) (l : List ℕ) (A : List Asking) → ((k : Asking) → list.In k A → (let e = k.asked in e.at) ≤ n) →
    filter (λ (k : AskedOf). nat_le k.at n) (asks_by (accepted_of A) l) ≡ asks_by (accepted_of A) l
all_by n l [] early = refl
all_by n l (k ∷ ks) early =
    ap (filter low) (filter-append its (accepted_of ks) (k.asked ∷ []))
    ∙ filter-append low (asks_by (accepted_of ks) l) (cond (its k.asked) (k.asked ∷ []) [])
    ∙ (λ i. all_by n l ks (λ j i. early j (inr i)) i ++ one (its k.asked) i)
    ∙ sym (filter-append its (accepted_of ks) (k.asked ∷ []))
  where
    low : AskedOf → Bool
    low k = nat_le k.at n

    its : AskedOf → Bool
    its a = is_ask_by l a.event

    at_most : (j : ℕ) → j ≤ n → nat_le j n ≡ true
    at_most j is = grind (arith, nat_tests, is)

    one : (b : Bool) → filter (λ (a : AskedOf). nat_le a.at n) (cond b (k.asked ∷ []) []) ≡ cond b (k.asked ∷ []) []
    one true = λ i. cond (at_most (let e = k.asked in e.at) (early k (inl refl)) i) (k.asked ∷ []) []
    one false = refl

pub in_drop : {A : Type 0} (n : ℕ) (xs : List A) (y : A) (ys : List A) → n ≤ length xs → In y (drop n (xs ++ y ∷ ys))
in_drop zero [] y ys low = inl refl
in_drop zero (x ∷ xs) y ys low = inr (in_drop zero xs y ys (omega arith))
in_drop (suc n) [] y ys low = absurd (omega (arith, low))
in_drop (suc n) (x ∷ xs) y ys low = in_drop n xs y ys (omega (arith, low))

-- a frame is of a message that was sent
pub frame_sent : (sent : List Post) (fs : List Frame) (p : Post) → AllByRecursion (IsSent sent) fs → HasFrame fs p → seen.In p sent
frame_sent sent [] p all has = absurd has
frame_sent sent (f ∷ fs) p all (inl is) =
    subst (λ i. seen.In (record { from = i; to = p.to; message = p.message }) sent) is.0
    (subst (λ i. seen.In (record { from = f.from; to = i; message = p.message }) sent) is.1
    (subst (λ o. Words.IfSome o (λ m. seen.In (record { from = f.from; to = f.to; message = m }) sent)) is.2 all.0))
frame_sent sent (f ∷ fs) p all (inr has) = frame_sent sent fs p all.1 has

-- ---- requests

-- a request that an operation be run is an Invoke
invoke_kind : (m : Message) (h : Head) (a : Ask) → asks m ≡ Some (h, a) → ask_kind a ≡ 5 → frame_kind m ≡ frame.Invoke
invoke_kind m h a is five = by m is
  where
    apart : {B : Type 0} (g : Head) (b : Ask) (n : ℕ) → ask_kind b ≡ n → (n ≡ 5 → ⊥) →
        ◌≡◌ {A = Option (Head × Ask)} (Some (g, b)) (Some (h, a)) → B
    apart g b n kind isnt same =
        let one : ◌≡◌ {A = Head × Ask} (g, b) (h, a) = cc same in
        absurd (isnt (sym kind ∙ ap (λ (x : Head × Ask). ask_kind x.1) one ∙ five))

    by : (m : Message) → asks m ≡ Some (h, a) → frame_kind m ≡ frame.Invoke
    by (message.Invoke x) is = refl
    by (message.Bind x) is = apart _ _ 1 refl (λ e. omega (arith, e)) is
    by (message.Load x) is = apart _ _ 2 refl (λ e. omega (arith, e)) is
    by (message.Activate x) is = apart _ _ 3 refl (λ e. omega (arith, e)) is
    by (message.RecordMsg x) is = apart _ _ 4 refl (λ e. omega (arith, e)) is
    by (message.Vote x) is = apart _ _ 6 refl (λ e. omega (arith, e)) is
    by (message.Prepare x) is = apart _ _ 7 refl (λ e. omega (arith, e)) is
    by (message.Confirm x) is = apart _ _ 8 refl (λ e. omega (arith, e)) is
    by x is = absurd (cc is)

-- who waits for an operation asked a call
call_goal : (g : Goal) (at : At) (kept : Option calls.Known) → StandsOn g kept at → is_invoke at ≡ true → (l : Label) (x : ℕ) →
    is_call (asks_goal l x g) ≡ true
call_goal (Run o) at kept stands is l x = refl
call_goal (calls.Include n) (AtBind b) kept stands is l x = absurd (cc is)
call_goal (calls.Include n) (AtLoad q m rest) kept stands is l x = absurd (cc is)
call_goal (calls.Include n) (AtActivate q st) kept stands is l x = absurd stands
call_goal (calls.Include n) (AtNote q i) kept stands is l x = absurd stands
call_goal (calls.Include n) (AtInvoke q i) kept stands is l x = absurd stands

-- ---- one giveup

module _ (hd : Header) (form : HeaderFits hd) (g : History) (p : Past) (w : World) (s : Stands hd form g p w) (on : w.over ≡ false)
    (k : ℕ) (n : Node) (t : Parts) (there : at_place k w.nodes ≡ Some n) (live : n.live ≡ Some t) where
  -- who waits isn't a serializing action
  plain_kind : (k : Kind) → (k ≡ kind.Serial → ⊥) → is_serial k ≡ false
  plain_kind kind.Serial isnt = absurd (isnt refl)
  plain_kind kind.Top isnt = refl
  plain_kind kind.Nested isnt = refl
  plain_kind kind.Independent isnt = refl
  plain_kind kind.Constituent isnt = refl

  same_number : (a b : ℕ) → a ≡ b → (a == b) ≡ true
  same_number a b is = grind (arith, nat_tests, is)

  module _ (u : Uid) (d : Doing) (q : Steps) (does : doing_of u t.coord ≡ Some d) (now : d.now ≡ Calling q)
      (is : is_invoke q.at ≡ true) where
    f : acting.Stands (let h = s.base.base.halts in see h.sent w) (let h = s.base.base.halts in h.holds) k n t there live u d
    f = acting.stands (let h = s.base.base.halts in see h.sent w) (let h = s.base.base.halts in h.holds) k n t there live u d does

    way : (x : Post) × IsFramed w.frames x × (x.from ≡ k) × (x.to ≡ next_node q) × Terms.AsksFor (Terms.want_of_call u q) x.message
    way = framed_way w.frames k u q is (let z = s.ways on in let c = z.calls k n t there live in c.calls u d q does now is)

    abbrev post : Post
    post = way.0

    asking_it : Terms.AsksFor (Terms.want_of_call u q) post.message
    asking_it = way.4

    sent : seen.In post (let h = s.all.now in h.sent)
    sent = let h = s.all.now in frame_sent h.sent w.frames post h.stands.frames (let x = way.1 in x.frame)

    lined : IsLined g.askings w.lines post (let a = asking_it in a.head)
    lined = let h = s.all.now in let a = asking_it in
        ⊎_elim (λ same. absurd (let x = way.1 in x.apart same)) (λ l. l)
        (let r : AreLined _ = h.holds.1 in r.lined post a.head a.ask sent a.is)

    asked : IsAskedSo g.askings u d q
    asked = let a = s.base.tied.now.holds.1 in
        (subst (IsTied g.askings w.lines u d) (ap calling now) (a.tied k n t u d there live does)).1

    same_req : q.req ≡ d.req
    same_req = subst (IsNumbered d.req) now (acting.numbered (let h = s.base.base.halts in see h.sent w)
        (let h = s.base.base.halts in h.holds) k n t there live u d does)

    -- the request is of the action, by its last number
    act_is : u ≡ actor (let a = asking_it in let h = a.head in h.path)
    act_is = let a = asking_it in sym (ap (λ (x : Asked). x.act) a.by)

    req_is : (let a = asking_it in let h = a.head in h.req) ≡ q.req
    req_is = let a = asking_it in ap (λ (x : Asked). x.req) a.by

    early : (let a = asked in let e = a.asking in let x = e.asked in x.at) ≤ length lined.before
    early = let a = asked in let l = lined in
        l.behind a.asking a.there (a.act ∙ act_is) (low a.first (sym same_req ∙ sym req_is))
      where
        low : {m i j : ℕ} → m ≤ i → i ≡ j → m ≤ j
        low {m} {i} {j} less same = omega (arith, less, same)

    home_is : (let a = f.act in let v = a.uid in v.node) ≡ k
    home_is = ap (λ (v : Uid). v.node) f.uid
        ∙ eqb-true u.node t.coord.tree.node (and_parts (u.node == t.coord.tree.node) (u.inc == t.coord.tree.inc)
        (found_by u t.coord.tree f.branch f.found).0).0
        ∙ acting.node_is (let h = s.base.base.halts in see h.sent w) (let h = s.base.base.halts in h.holds) k n t there live

    five : ask_kind (let a = asking_it in a.ask) ≡ 5
    five = let a = asking_it in a.kind ∙ by q.at is
      where
        by : (at : At) → is_invoke at ≡ true → ask_kind (Words.ask_at q.x q.goal [] at) ≡ 5
        by (AtBind b) is = absurd (cc is)
        by (AtLoad z m rest) is = absurd (cc is)
        by (AtActivate z st) is = absurd (cc is)
        by (AtNote z i) is = absurd (cc is)
        by (AtInvoke z i) is = refl

    -- the line says so
    is_line : is_frame (let a = f.act in let v = a.uid in v.node) (next_node q) (frame.Invoke ∷ [])
        (let l = lined in let x = l.line in x.body) ≡ true
    is_line = let l = lined in
        ap (is_frame (let a = f.act in let v = a.uid in v.node) (next_node q) (frame.Invoke ∷ [])) l.says
        ∙ (λ i. same_number post.from (let a = f.act in let v = a.uid in v.node) (way.2 ∙ sym home_is) i
        && (same_number post.to (next_node q) way.3 i
        && list_any (same_frame
        (invoke_kind post.message (let a = asking_it in a.head) (let a = asking_it in a.ask) (let a = asking_it in a.is) five i))
        (frame.Invoke ∷ [])))

    -- behind what the giveup says first
    pub doomed : (x : AskedOf) (gave : Line) (line : Line) (more : List Line) → is_ask_by (name d.label) x.event ≡ false →
        line.body ≡ body.Lost d.label (next_node q) →
        IsDoomedSo (p.accepted ++ x ∷ []) (w.lines ++ gave ∷ line ∷ more) u
    doomed x gave line more other says = record {
      act = f.act;
      began = began_more w.lines (gave ∷ line ∷ more) f.act f.began;
      uid = f.uid;
      plain = ap is_serial f.kind ∙ plain_kind (let b = f.branch in b.kind) unserial;
      lost = record {
        before = w.lines ++ gave ∷ [];
        line = line;
        after = more;
        label = d.label;
        node = next_node q;
        asked = let a = asked in let e = a.asking in e.asked;
        are = sym (append_assoc w.lines (gave ∷ []) (line ∷ more));
        says = says;
        its = (bytes_eq-Decides (name d.label) (let a = f.act in a.label)).1 (sym f.label);
        last = last;
        call = let a = asked in let r = a.goal in ap is_call r.2 ∙ call_goal q.goal q.at (kept_at q t.coord) steps is r.0 q.x;
        frame = any_in its_frame (drop (let a = asked in let e = a.asking in let x = e.asked in x.at) (w.lines ++ gave ∷ []))
            (let l = lined in l.line) in_span is_line;
      };
    }
      where
        its_frame : Line → Bool
        its_frame z = is_frame (let a = f.act in let v = a.uid in v.node) (next_node q) (frame.Invoke ∷ []) z.body

        label_is : (let a = f.act in a.label) ≡ name d.label
        label_is = f.label

        unserial : (let b = f.branch in b.kind) ≡ kind.Serial → ⊥
        unserial =
            let coord = acting.coord (let h = s.base.base.halts in see h.sent w) (let h = s.base.base.halts in h.holds) k n t there live in
            let b : IsAsking t.coord.tree u q.path = subst (IsBusy t.coord.tree u) now (coord.busy u d does) in
            subst (λ (z : Branch). z.kind ≡ kind.Serial → ⊥) (one (sym b.found ∙ f.found)) b.unserial
          where
            one : {A : Type 0} {x y : A} → Some x ≡ Some y → x ≡ y
            one {A} {x} {y} is = let k : ◌≡◌ {A = Option A} (Some x) (Some y) = is in cc

        steps : StandsOn q.goal (kept_at q t.coord) q.at
        steps = let h = s.binds in let b = h.holds.1 in let c = b.nodes k n t there live in c.steps u d q does now

        in_span : In (let l = lined in l.line) (drop (let a = asked in let e = a.asking in let x = e.asked in x.at) (w.lines ++ gave ∷ []))
        in_span = let l = lined in
            subst (λ zs. In l.line (drop (let a = asked in let e = a.asking in let x = e.asked in x.at) zs))
            (sym (append_assoc l.before (l.line ∷ l.after) (gave ∷ [])) ∙ ap (λ zs. zs ++ gave ∷ []) (sym l.are))
            (in_drop (let a = asked in let e = a.asking in let x = e.asked in x.at) l.before l.line (l.after ++ gave ∷ []) early)

        -- by then all was asked
        by_then : (j : Asking) → list.In j g.askings → (let e = j.asked in e.at) ≤ length (w.lines ++ gave ∷ [])
        by_then j i = let h = s.all.now in let r : AreLined _ = h.holds.1 in
            further (length w.lines) (length (w.lines ++ gave ∷ [])) (r.asked j i) (length-append w.lines (gave ∷ []))
          where
            further : {m : ℕ} (i j : ℕ) → m ≤ i → j ≡ i + 1 → m ≤ j
            further {m} i j less same = omega (arith, less, same)

        all_asks : asks_by (p.accepted ++ x ∷ []) (let a = f.act in a.label) ≡ asks_by (accepted_of g.askings) (name d.label)
        all_asks = ap (asks_by (p.accepted ++ x ∷ [])) label_is
            ∙ filter-append (λ (k : AskedOf). is_ask_by (name d.label) k.event) p.accepted (x ∷ [])
            ∙ (λ i. asks_by p.accepted (name d.label) ++ cond (other i) (x ∷ []) [])
            ∙ append-nil (asks_by p.accepted (name d.label)) ∙ s.base.asked (name d.label)

        last : last_asked (filter (λ (k : AskedOf). nat_le k.at (length (w.lines ++ gave ∷ []))) (asks_by (p.accepted ++ x ∷ [])
            (let a = f.act in a.label))) ≡ Some (let a = asked in let e = a.asking in e.asked)
        last = ap (λ ks. last_asked (filter (λ (k : AskedOf). nat_le k.at (length (w.lines ++ gave ∷ []))) ks)) all_asks
            ∙ ap last_asked (all_by (length (w.lines ++ gave ∷ [])) (name d.label) g.askings by_then) ∙ (let a = asked in a.last)
