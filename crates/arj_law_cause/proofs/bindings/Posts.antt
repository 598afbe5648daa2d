-- What calls under way and messages say of bindings stands in the journal, whatever nodes do.
use Rattle.arj_law_parts.proofs.Words
use Words.{◌≡◌, ◌∙◌, ◌==◌, ◌++◌, ℕ, Bool, true, false, cond, List, [], ◌∷◌, map, Option, Some, None}
use Words.{refl, sym, ap, subst, ⊤, inr, ⊎_elim, and_parts, AllByRecursion}
use Words.{Naming, Start, Ask, Asked, Binding, Body, Head, Line, Message, Uid, asks}
use Words.{Reply, answers, asked_by}
use Words.{Coord, Disk, Do, Effect, Say}
use Words.{Send, stopped, worked}
use Words.{Parts}
use Words.{query_about}
use Words.{Node}
use Words.{numbered, Post, Seen}
use Words.{list_all, AreAll, is_naming_effect, is_server_effect}
use Words.body
use Rattle.arj_law_parts.specs.moves.Seen.{AreQuiet, In, Within, at, posted, said, up}
use Rattle.arj_law_parts.specs.moves.Walks.{Up, Walks, halted}
use Rattle.arj_law_runs.proofs.Terms as runs
use runs.{AreTrue, all_both}
use Rattle.arj_law_runs.proofs.calls.CoordSends.{AllQuiet}
use Rattle.arj_law_runs.proofs.calls.WorldSteps.{no_answer}
use Rattle.arj_law_runs.proofs.kept.Walked.{same_number}
use Rattle.arj_law_cause.proofs.bindings.Asking
use Asking.{AllSo, AreAtSo, AskedSo, ReplySo, all_at_map, ask_map, reply_map}
use Rattle.arj_law_runs.proofs.calls.WholeRuns.{few_before}
use Rattle.arj_law_cause.proofs.bindings.Named.{IsNamingSo, OfServer, naming_map}
use Rattle.arj_law_cause.proofs.bindings.Since.{active_in_more, met_in}
use Rattle.arj_law_cause.proofs.bindings.Copies.{active_by}
use Rattle.arj_law_cause.proofs.bindings.Lines.{IsActive, IsLined, active_more, lined_more}

none_is : {A P : Type 0} {x : A} → None ≡ Some x → P
none_is {A} {P} {x} is = let no_way : ◌≡◌ {A = Option A} None (Some x) = is in absurd (cc no_way)

some_is : {A : Type 0} {a b : A} → Some a ≡ Some b → a ≡ b
some_is {A} {a} {b} is = let k : ◌≡◌ {A = Option A} (Some a) (Some b) = is in cc

-- ---- more lines

-- what stands in the first stands in the second
pub record Later (ls ms : List Line) : Type 0 where
  pub lined : (x : ℕ) (b : Binding) (s : ℕ) → IsLined ls x b s → IsLined ms x b s
  pub active : (n x : ℕ) (b : Binding) → IsActive ls n x b → IsActive ms n x b
  pub met : (st : Start) (x : ℕ) (b : Binding) (s i : ℕ) → met_in st ls x b s i → met_in st ms x b s i

pub later_same : (ls : List Line) → Later ls ls
later_same ls = record { lined = λ x b s h. h; active = λ n x b h. h; met = λ st x b s i h. h }

pub later_more : (ls ms : List Line) → Later ls (ls ++ ms)
later_more ls ms = record {
  lined = λ x b s h. lined_more ls ms x b s h;
  active = λ n x b h. active_more ls ms n x b h;
  met = λ st x b s i h few. active_in_more st ls ms s x b i (h (few_before ls ms few));
}

pub later_both : (ls ms ns : List Line) → Later ls ms → Later ms ns → Later ls ns
later_both ls ms ns a b = record {
  lined = λ x c s h. b.lined x c s (a.lined x c s h);
  active = λ n x c h. b.active n x c
      (a.active n x c h);
  met = λ st x c s i h. b.met st x c s i (a.met st x c s i h);
}

pub by_later : (ls ms : List Line) → Later ls ms → (x : ℕ) (b : Binding) (s : ℕ) → active_by ls x b s → active_by ms x b s
by_later ls ms l x b s h = (h.0, h.1, l.lined x h.0 s h.2, l.active s x h.0 h.3)

-- ---- what messages say

-- an answer that was sent: it goes back to who sent the request, and is so
pub record IsAnswerSo (st : Start) (sent : List Post) (ls : List Line) (p : Post) (a : Asked) (r : Reply) : Type 0 where
  pub request : Post
  pub head : Head
  pub ask : Ask
  pub posted : In request sent
  pub asking : asks request.message ≡ Some (head, ask)
  pub same : asked_by head ≡ a
  pub from : request.from ≡ p.to
  pub so : ReplySo (IsLined ls) (active_by ls) (met_in st ls) p.from ask r

pub record PostSo (st : Start) (sent : List Post) (ls : List Line) (p : Post) : Type 0 where
  pub asking : AskedSo (IsLined ls) (active_by ls) (met_in st ls) p.to (asks p.message)
  pub answering : (a : Asked) (r : Reply) → answers p.message ≡ Some (a, r) → IsAnswerSo st sent ls p a r

pub post_later : (st : Start) (few many : List Post) (ls ms : List Line) → Within few many → Later ls ms → (p : Post) →
    PostSo st few ls p → PostSo st many ms p
post_later st few many ls ms more l p its = record {
  asking = ask_map (IsLined ls) (IsLined ms) (active_by ls) (active_by ms) (met_in st ls) (met_in st ms) l.lined (by_later ls ms l)
      (l.met st) p.to (asks p.message) its.asking;
  answering = λ a r is. let f = its.answering a r is in record {
    request = f.request;
    head = f.head;
    ask = f.ask;
    posted = more f.request f.posted;
    asking = f.asking;
    same = f.same;
    from = f.from;
    so = reply_map (IsLined ls) (IsLined ms) (active_by ls) (active_by ms) (met_in st ls) (met_in st ms) l.lined (by_later ls ms l)
        (l.met st) p.from f.ask r f.so;
  };
}

-- what is known of any binding
abbrev pub anything : OfServer
anything x b s = ⊤

-- of a node's coordinator, and of the incarnations that naming has of servers
abbrev pub At : Start → List Line → Parts → Type 0
At st ls t = AreAtSo (IsLined ls) (active_by ls) (met_in st ls) t.coord
    × ((n : Naming) → t.naming ≡ Some n → IsNamingSo anything (met_in st ls) n)

pub at_later : (st : Start) (ls ms : List Line) → Later ls ms → (t : Parts) → At st ls t → At st ms t
at_later st ls ms l t all = (
  all_at_map (IsLined ls) (IsLined ms) (active_by ls) (active_by ms) (met_in st ls) (met_in st ms) l.lined (by_later ls ms l) (l.met st)
      t.coord all.0,
  λ n is. naming_map anything anything (met_in st ls) (met_in st ms) (λ x b s z. z) (l.met st) n (all.1 n is),
)

-- so it is of all messages that were sent, and of all calls that wait
pub record Says (M : Seen) : Type 0 where
  pub sent : (p : Post) → In p M.sent → PostSo M.start M.sent M.lines p
  pub works : (j : ℕ) (n : Node) (t : Parts) → M.nodes j ≡ Some n → n.live ≡ Some t → At M.start M.lines t

-- an effect that sends nothing
abbrev pub IsSilent : Effect → Type 0
IsSilent (Send to m) = ⊥
IsSilent (Say b) = ⊤
IsSilent (Do w) = ⊤

-- ---- one node's effects

module _ (k : ℕ) where
  post : ℕ → Message → Post
  post to m = record { from = k; to = to; message = m }

  module _ (st : Start) (base : List Post) where
    -- what these effects send is so by the lines before
    abbrev pub Claims : ℕ → List Effect → List Line → Type 0
    Claims e [] ls = ⊤
    Claims e (Do w ∷ es) ls = Claims e es ls
    Claims e (Say b ∷ es) ls = Claims e es (ls ++ numbered e (b ∷ []))
    Claims e (Send to m ∷ es) ls = PostSo st base ls (record { from = k; to = to; message = m })
        × ((more : List Body) → AreQuiet more → Claims e es (ls ++ numbered e more))

    -- so it is by these lines, of what one effect sends
    abbrev pub PostedSo : List Line → Effect → Type 0
    PostedSo ls (Send to m) = PostSo st base ls (record { from = k; to = to; message = m })
    PostedSo ls (Say b) = ⊤
    PostedSo ls (Do w) = ⊤

    abbrev pub AllPosted : List Line → List Effect → Type 0
    AllPosted ls outs = AllByRecursion (PostedSo ls) outs

    pub all_claims : (e : ℕ) (ls : List Line) (es : List Effect) → AllPosted ls es → (ms : List Line) → Later ls ms → Claims e es ms
    all_claims e ls [] all ms l = tt
    all_claims e ls (Do w ∷ es) all ms l = all_claims e ls es all.1 ms l
    all_claims e ls (Say b ∷ es) all ms l = all_claims e ls es all.1 (ms ++ numbered e (b ∷ []))
        (later_both ls ms (ms ++ numbered e (b ∷ [])) l (later_more ms (numbered e (b ∷ []))))
    all_claims e ls (Send to m ∷ es) all ms l = (
      post_later st base base ls ms (λ z i. i) l (record { from = k; to = to; message = m }) all.0,
      λ more quiet. all_claims e ls es all.1 (ms ++ numbered e more)
          (later_both ls ms (ms ++ numbered e more) l (later_more ms (numbered e more))),
    )

    pub front_claims : (e : ℕ) (es fs : List Effect) → AllByRecursion IsSilent es → (ls ms : List Line) → Later ls ms →
        ((ns : List Line) → Later ls ns → Claims e fs ns) → Claims e (es ++ fs) ms
    front_claims e [] fs all ls ms l rest = rest ms l
    front_claims e (Do w ∷ es) fs all ls ms l rest = front_claims e es fs all.1 ls ms l rest
    front_claims e (Say b ∷ es) fs all ls ms l rest = front_claims e es fs all.1 ls (ms ++ numbered e (b ∷ []))
        (later_both ls ms (ms ++ numbered e (b ∷ [])) l (later_more ms (numbered e (b ∷ [])))) rest
    front_claims e (Send to m ∷ es) fs all ls ms l rest = absurd all.0

  abbrev pub Off : Seen → Type 0
  Off N = (j : ℕ) (n : Node) (t : Parts) → (j == k) ≡ false → N.nodes j ≡ Some n → n.live ≡ Some t → At N.start N.lines t

  abbrev pub Sent : Seen → Type 0
  Sent N = (p : Post) → In p N.sent → PostSo N.start N.sent N.lines p

  pub off_of : (d : Disk) (live : Option Parts) (M : Seen) → Says (at k d live M) → Off M
  off_of d live M h j n t other there live_is =
      h.works j n t ((λ i. cond (other i) (Some (record { number = k; disk = d; live = live })) (M.nodes j)) ∙ there) live_is

  pub own_of : (d : Disk) (t : Parts) (M : Seen) → Says (up k d t M) → At M.start M.lines t
  own_of d t M h = h.works k (record { number = k; disk = d; live = Some t }) t
      (λ i. cond (same_number k i) (Some (record { number = k; disk = d; live = Some t })) (M.nodes k)) refl

  back : (d : Disk) (live : Option Parts) (N : Seen) → Sent N → Off N → ((t : Parts) → live ≡ Some t → At N.start N.lines t) →
      Says (at k d live N)
  back d live N posts others own = record { sent = posts; works = λ j n t there live_is. by j n t (j == k) refl there live_is }
    where
      by : (j : ℕ) (n : Node) (t : Parts) (b : Bool) → (j == k) ≡ b →
          cond b (Some (record { number = k; disk = d; live = live })) (N.nodes j) ≡ Some n → n.live ≡ Some t → At N.start N.lines t
      by j n t true same there live_is = own t (ap (λ (z : Node). z.live) (some_is there) ∙ live_is)
      by j n t false other there live_is = others j n t other there live_is

  pub sent_later : (st : Start) (sent : List Post) (ls ms : List Line) → Later ls ms → ((p : Post) → In p sent → PostSo st sent ls p) →
      (p : Post) → In p sent → PostSo st sent ms p
  sent_later st sent ls ms l posts p i = post_later st sent sent ls ms (λ z j. j) l p (posts p i)

  pub off_later : (N V : Seen) → V.nodes ≡ N.nodes → V.start ≡ N.start → Later N.lines V.lines → Off N → Off V
  off_later N V nodes start l others j n t other there live = subst (λ st. At st V.lines t) (sym start)
      (at_later N.start N.lines V.lines l t (others j n t other ((λ i. (sym nodes) i j) ∙ there) live))

  pub halts_so : (e : ℕ) (d : Disk) (N : Seen) → Sent N → Off N → Says (halted e k d N)
  halts_so e d N posts others =
      let l = later_more N.lines (numbered e (body.Halted k ∷ [])) in
      back d None (said e (body.Halted k ∷ []) N)
      (sent_later N.start N.sent N.lines (N.lines ++ numbered e (body.Halted k ∷ [])) l posts)
      (off_later N (said e (body.Halted k ∷ []) N) refl refl l others) (λ t is. none_is is)

  pub walk : (e : ℕ) (v : Parts) (es : List Effect) (base : List Post) (d : Disk) (N : Seen) → Within base N.sent → Sent N → Off N →
      At N.start N.lines v → Claims N.start base e es N.lines → Walks Says e k es (Up Says k v) d N
  walk e v [] base d N more posts others own claims =
      back d (Some v) N posts others (λ t is. subst (At N.start N.lines) (some_is is) own)
  walk e v (Do w ∷ es) base d N more posts others own claims =
      (λ how. halts_so e (stopped how w d) N posts others, walk e v es base (worked w d) N more posts others own claims)
  walk e v (Say b ∷ es) base d N more posts others own claims =
      let l = later_more N.lines (numbered e (b ∷ [])) in
      walk e v es base d (said e (b ∷ []) N) more (sent_later N.start N.sent N.lines (N.lines ++ numbered e (b ∷ [])) l posts)
      (off_later N (said e (b ∷ []) N) refl refl l others) (at_later N.start N.lines (N.lines ++ numbered e (b ∷ [])) l v own) claims
  walk e v (Send to m ∷ es) base d N more posts others own claims = λ lines quiet.
      let q : Post = record { from = k; to = to; message = m } in
      let ms : List Line = N.lines ++ numbered e lines in
      let l = later_more N.lines (numbered e lines) in
      walk e v es base d (said e lines (posted q N)) (λ z i. inr (more z i))
      (λ p. ⊎_elim {C = PostSo N.start (q ∷ N.sent) ms p}
      (λ same. subst (PostSo N.start (q ∷ N.sent) ms) same (post_later N.start base (q ∷ N.sent) N.lines ms (λ z i. inr (more z i)) l q
      claims.0))
      (λ old. post_later N.start N.sent (q ∷ N.sent) N.lines ms (λ z i. inr i) l p (posts p old)))
      (off_later N (said e lines (posted q N)) refl refl l others) (at_later N.start N.lines ms l v own) (claims.1 lines quiet)

  -- ---- what a coordinator sends

  module _ (st : Start) (base : List Post) (ls : List Line) where
    -- what asks nothing and answers nothing
    pub plain_post : (to : ℕ) (m : Message) → asks m ≡ None → answers m ≡ None → PostSo st base ls (record {
      from = k;
      to = to;
      message =
          m;
    })
    plain_post to m no_ask no_reply = record {
      asking = subst (AskedSo (IsLined ls) (active_by ls) (met_in st ls) to) (sym no_ask) tt;
      answering = λ a r is. none_is (sym no_reply ∙ is);
    }

    pub coord_posts : (c : Coord) (outs : List Effect) → AreTrue c outs → AllSo (IsLined ls) (active_by ls) (met_in st ls) outs →
        AllPosted st base ls outs
    coord_posts c [] t so = tt
    coord_posts c (Send to m ∷ es) t so = let f = t.0 in
        (record { asking = so.0; answering = λ a r is. none_is (sym (no_answer m f.plain) ∙ is) }, coord_posts c es t.1 so.1)
    coord_posts c (Say b ∷ es) t so = (tt, coord_posts c es t.1 so.1)
    coord_posts c (Do w ∷ es) t so = (tt, coord_posts c es t.1 so.1)

    pub quiet_posts : (c : Coord) (outs : List Effect) → AreTrue c outs → AllQuiet outs → AllPosted st base ls outs
    quiet_posts c [] t quiet = tt
    quiet_posts c (Send to m ∷ es) t quiet = let f = t.0 in
        (plain_post to m quiet.0 (no_answer m f.plain), quiet_posts c es t.1 quiet.1)
    quiet_posts c (Say b ∷ es) t quiet = (tt, quiet_posts c es t.1 quiet.1)
    quiet_posts c (Do w ∷ es) t quiet = (tt, quiet_posts c es t.1 quiet.1)

    pub asks_posts : (us : List Uid) → AllPosted st base ls (map query_about us)
    asks_posts [] = tt
    asks_posts (u ∷ us) = (plain_post u.node _ refl refl, asks_posts us)

    pub posts_both : (xs ys : List Effect) → AllPosted st base ls xs → AllPosted st base ls ys → AllPosted st base ls (xs ++ ys)
    posts_both xs ys a b = all_both (PostedSo st base ls) xs ys a b

-- what servers and naming do by themselves sends nothing
pub server_silent : (n : ℕ) (outs : List Effect) → AreAll (is_server_effect n) outs → AllByRecursion IsSilent outs
server_silent n [] all = tt
server_silent n (Say b ∷ es) all = (
  tt,
  server_silent n es (and_parts (is_server_effect n (Say b)) (list_all (is_server_effect n) es)
      all).1,
)
server_silent n (Send to m ∷ es) all = absurd (cc all)
server_silent n (Do w ∷ es) all = (tt, server_silent n es (and_parts (is_server_effect n (Do w)) (list_all (is_server_effect n) es) all).1)

pub naming_silent : (outs : List Effect) → AreAll is_naming_effect outs → AllByRecursion IsSilent outs
naming_silent [] all = tt
naming_silent (Say b ∷ es) all = (tt, naming_silent es (and_parts (is_naming_effect (Say b)) (list_all is_naming_effect es) all).1)
naming_silent (Send to m ∷ es) all = absurd (cc all)
naming_silent (Do w ∷ es) all = (tt, naming_silent es (and_parts (is_naming_effect (Do w)) (list_all is_naming_effect es) all).1)
