-- What holds of each node's memory by the journal, where lines that tell of no binding, copy or start leave it, and so do other nodes'
-- lines.
use Rattle.arj_law_parts.proofs.Words
use Words.{◌≡◌, ◌∙◌, ◌==◌, ◌++◌, ◌+◌, ◌&&◌, not, ℕ, Bool, true, false, cond, if◌then◌else◌, List, [], ◌∷◌, map, Option, Some, None, refl}
use Words.{sym, ap, subst}
use Words.{append-nil, append_assoc, list_all, and_parts, Body, Header, Kind, Label, Line, Message, Start, Coord, Disk, Do, Effect, Say}
use Words.{Send}
use Words.{stopped, worked, Parts, Took, handle, is_meant, holders, with_coord, Input, Node, acts as does, acts_own, again_all, again_own}
use Words.{all_both}
use Words.{begin_action, map_own, parent_of, parts_in, query_about, refusal_up, restart_outs, tick_outs, tolds_again, tolds_again_own}
use Words.{AreAll}
use Words.{is_coord_effect, is_coord_line, is_serial, numbered, Post, Seen}
use Words.body
use Words.input
use Rattle.arj_law_parts.specs.moves.Keeps.{IsAtStarts}
use Rattle.arj_law_parts.specs.moves.Seen as seen
use Rattle.arj_law_parts.specs.moves.Seen.{AreQuiet, at, down, given, is_quiet_line, posted, said, up}
use Rattle.arj_law_parts.specs.moves.Walks.{Up, Walks, halted}
use Rattle.arj_law_runs.proofs.calls.Given.{KeepsGiven}
use Rattle.arj_law_runs.proofs.kept.Walked.{same_number}
use Rattle.arj_law_serial.proofs.holding.Says as saying
use Rattle.arj_law_cause.proofs.bindings.Lines.{quiet_tells, tells}

-- a node says such lines of itself alone, and only naming's node tells of bindings
abbrev pub is_own : ℕ → Body → Bool
is_own k (body.Bound x b s) = k == 1
is_own k (body.Active n x b) = n == k
is_own k (body.Up n i) = n == k
is_own k b = true

-- no line tells of any
abbrev pub is_plain : Body → Bool
is_plain b = not (tells b)

abbrev pub ArePlain : List Effect → Type 0
ArePlain es = saying.All is_plain es

plain_tells : (b : Body) → is_plain b ≡ true → tells b ≡ false
plain_tells (body.Bound x b s) is = absurd (cc is)
plain_tells (body.Active n x b) is = absurd (cc is)
plain_tells (body.Up n i) is = absurd (cc is)
plain_tells b is = refl

plain_own : (k : ℕ) (b : Body) → is_plain b ≡ true → is_own k b ≡ true
plain_own k (body.Bound x b s) is = absurd (cc is)
plain_own k (body.Active n x b) is = absurd (cc is)
plain_own k (body.Up n i) is = absurd (cc is)
plain_own k b is = refl

coord_plain : (b : Body) → is_coord_line b ≡ true → is_plain b ≡ true
coord_plain (body.Bound x b s) is = absurd (cc is)
coord_plain (body.Active n x b) is = absurd (cc is)
coord_plain (body.Up n i) is = absurd (cc is)
coord_plain b is = refl

pub coord_all : (es : List Effect) → AreAll is_coord_effect es → ArePlain es
coord_all = saying.kind_says is_plain is_coord_effect is_coord_line (λ b. refl) coord_plain

pub own_all : (k : ℕ) (es : List Effect) → ArePlain es → saying.All (is_own k) es
own_all k [] all = refl
own_all k (Say b ∷ es) all = let p = and_parts (is_plain b) (list_all (saying.says is_plain) es) all in
    λ i. plain_own k b p.0 i && own_all k es p.1 i
own_all k (Send to m ∷ es) all = own_all k es all
own_all k (Do w ∷ es) all = own_all k es all

none_is : {A P : Type 0} {x : A} → None ≡ Some x → P
none_is {A} {P} {x} is = let no_way : ◌≡◌ {A = Option A} None (Some x) = is in absurd (cc no_way)

some_is : {A : Type 0} {a b : A} → Some a ≡ Some b → a ≡ b
some_is {A} {a} {b} is = let k : ◌≡◌ {A = Option A} (Some a) (Some b) = is in cc

module _ (F : ℕ → Parts → Start → List Line → Type 0) (G : Start → List Line → Type 0)
    (keeps : (j : ℕ) (t : Parts) (st : Start) (ls : List Line) (e : ℕ) (b : Body) → tells b ≡ false → F j t st ls →
    F j t st (ls ++ numbered e (b ∷ [])))
    (off : (j k : ℕ) → (j == k) ≡ false → (t : Parts) (st : Start) (ls : List Line) (e : ℕ) (b : Body) → is_own k b ≡ true → F j t st ls →
    F j t st (ls ++ numbered e (b ∷ [])))
    (stays : (st : Start) (ls : List Line) (e : ℕ) (b : Body) → tells b ≡ false → G st ls → G st (ls ++ numbered e (b ∷ []))) where
  -- so it is of all nodes that are up, and so much of the journal
  abbrev pub HoldsSo : Seen → Type 0
  HoldsSo M = G M.start M.lines × ((j : ℕ) (n : Node) (t : Parts) → M.nodes j ≡ Some n → n.live ≡ Some t → F j t M.start M.lines)

  -- ---- lines at which it doesn't look

  more_so : (P : List Line → Type 0) → ((ls : List Line) (e : ℕ) (b : Body) → tells b ≡ false → P ls → P (ls ++ numbered e (b ∷ []))) →
      (e : ℕ) (bs : List Body) → AreQuiet bs → (ls : List Line) → P ls → P (ls ++ numbered e bs)
  more_so P one e [] quiet ls h = subst P (sym (append-nil ls)) h
  more_so P one e (b ∷ bs) quiet ls h = let q = and_parts (is_quiet_line b) (list_all is_quiet_line bs) quiet in
      subst P (append_assoc ls (numbered e (b ∷ [])) (numbered e bs))
      (more_so P one e bs q.1 (ls ++ numbered e (b ∷ [])) (one ls e b (quiet_tells b q.0) h))

  -- ---- one node's effects

  -- Behind these effects of node k it is so of its memory; and so much of the journal behind each of their lines.
  abbrev pub Due : ℕ → Parts → Start → ℕ → List Effect → List Line → Type 0
  Due k v st e [] ls = F k v st ls
  Due k v st e (Do w ∷ es) ls = Due k v st e es ls
  Due k v st e (Say b ∷ es) ls = G st (ls ++ numbered e (b ∷ [])) × Due k v st e es (ls ++ numbered e (b ∷ []))
  Due k v st e (Send to m ∷ es) ls = (more : List Body) → AreQuiet more → Due k v st e es (ls ++ numbered e more)

  -- effects that tell of nothing leave what is kept by such lines
  pub front_due : (k : ℕ) (v : Parts) (st : Start) (e : ℕ) (P : List Line → Type 0) →
      ((ls : List Line) (b : Body) → tells b ≡ false → P ls → P (ls ++ numbered e (b ∷ []))) → (fs : List Effect) →
      ((ls : List Line) → G st ls → P ls → Due k v st e fs ls) → (es : List Effect) → ArePlain es → (ls : List Line) → G st ls → P ls →
      Due k v st e (es ++ fs) ls
  front_due k v st e P one fs rest [] all ls g h = rest ls g h
  front_due k v st e P one fs rest (Do w ∷ es) all ls g h = front_due k v st e P one fs rest es all ls g h
  front_due k v st e P one fs rest (Say b ∷ es) all ls g h =
      let q = and_parts (is_plain b) (list_all (saying.says is_plain) es) all in
      let still = plain_tells b q.0 in
      let after = stays st ls e b still g in
      (after, front_due k v st e P one fs rest es q.1 (ls ++ numbered e (b ∷ [])) after (one ls b still h))
  front_due k v st e P one fs rest (Send to m ∷ es) all ls g h = λ more quiet.
      front_due k v st e P one fs rest es all (ls ++ numbered e more) (more_so (G st) (λ ms f b is x. stays st ms f b is x)
      e more quiet ls g)
      (lines more quiet ls h)
    where
      lines : (bs : List Body) → AreQuiet bs → (ms : List Line) → P ms → P (ms ++ numbered e bs)
      lines [] are ms h = subst P (sym (append-nil ms)) h
      lines (b ∷ bs) are ms h = let q = and_parts (is_quiet_line b) (list_all is_quiet_line bs) are in
          subst P (append_assoc ms (numbered e (b ∷ [])) (numbered e bs))
          (lines bs q.1 (ms ++ numbered e (b ∷ [])) (one ms b (quiet_tells b q.0) h))

  pub plain_due : (k : ℕ) (v : Parts) (st : Start) (e : ℕ) (es : List Effect) → ArePlain es → (ls : List Line) → G st ls → F k v st ls →
      Due k v st e es ls
  plain_due k v st e es all ls g h = subst (λ xs. Due k v st e xs ls) (append-nil es)
      (front_due k v st e (F k v st) (λ ms b is x. keeps k v st ms e b is x) [] (λ ms x y. y) es all ls g h)

  module _ (k : ℕ) where
    -- of each node but this
    abbrev Off : Seen → Type 0
    Off N = (j : ℕ) (n : Node) (t : Parts) → (j == k) ≡ false → N.nodes j ≡ Some n → n.live ≡ Some t → F j t N.start N.lines

    off_of : (d : Disk) (live : Option Parts) (M : Seen) → HoldsSo (at k d live M) → Off M
    off_of d live M h j n t other there live_is =
        h.1 j n t ((λ i. cond (other i) (Some (record { number = k; disk = d; live = live })) (M.nodes j)) ∙ there) live_is

    own_of : (d : Disk) (t : Parts) (M : Seen) → HoldsSo (up k d t M) → F k t M.start M.lines
    own_of d t M h = h.1 k (record { number = k; disk = d; live = Some t }) t
        (λ i. cond (same_number k i) (Some (record { number = k; disk = d; live = Some t })) (M.nodes k)) refl

    back : (d : Disk) (live : Option Parts) (N : Seen) → G N.start N.lines → Off N → ((t : Parts) → live ≡ Some t → F k t N.start N.lines) →
        HoldsSo (at k d live N)
    back d live N g others own = (g, λ j n t there live_is. by j n t (j == k) refl there live_is)
      where
        by : (j : ℕ) (n : Node) (t : Parts) (b : Bool) → (j == k) ≡ b →
            cond b (Some (record { number = k; disk = d; live = live })) (N.nodes j) ≡ Some n →
            n.live ≡ Some t → F j t N.start N.lines
        by j n t true same there live_is = subst (λ z. F z t N.start N.lines) (sym (Words.eqb-true j k same))
            (own t (ap (λ (z : Node). z.live) (some_is there) ∙ live_is))
        by j n t false other there live_is = others j n t other there live_is

    halts_so : (e : ℕ) (d : Disk) (N : Seen) → G N.start N.lines → Off N → HoldsSo (halted e k d N)
    halts_so e d N g others = back d None (said e (body.Halted k ∷ []) N) (stays N.start N.lines e (body.Halted k) refl g)
        (λ j n t other there live. keeps j t N.start N.lines e (body.Halted k) refl (others j n t other there live)) (λ t is. none_is is)

    pub walk : (e : ℕ) (v : Parts) (es : List Effect) (d : Disk) (N : Seen) → saying.All (is_own k) es → Off N → G N.start N.lines →
        Due k v N.start e es N.lines → Walks HoldsSo e k es (Up HoldsSo k v) d N
    walk e v [] d N all others g due = back d (Some v) N g others (λ t is. subst (λ z. F k z N.start N.lines) (some_is is) due)
    walk e v (Do w ∷ es) d N all others g due = (
      λ how. halts_so e (stopped how w d) N g others,
      walk e v es (worked w d)
          N all others g due,
    )
    walk e v (Say b ∷ es) d N all others g due =
        let q = and_parts (is_own k b) (list_all (saying.says (is_own k)) es) all in
        walk e v es d (said e (b ∷ []) N) q.1
        (λ j n t other there live. off j k other t N.start N.lines e b q.0 (others j n t other there live)) due.0 due.1
    walk e v (Send to m ∷ es) d N all others g due = λ more quiet.
        walk e v es d (said e more (posted (record { from = k; to = to; message = m }) N)) all
        (λ j n t other there live. more_so (F j t N.start) (λ ls f b is x. keeps j t N.start ls f b is x) e more quiet N.lines
        (others j n t other there live))
        (more_so (G N.start) (λ ls f b is x. stays N.start ls f b is x) e more quiet N.lines g) (due more quiet)

  -- ---- every handler

  module _ (hd : Header) (H : Seen → Type 0)
      (coord : (j : ℕ) (t : Parts) (c : Coord) (st : Start) (ls : List Line) → F j t st ls → F j (with_coord t c) st ls)
      (message : (e k : ℕ) (d : Disk) (t v : Parts) (from : ℕ) (m : Message) (outs : List Effect) (M : Seen) → H (up k d t M) →
      HoldsSo (up k d t M) → seen.In (record { from = from; to = k; message = m }) M.sent → is_meant t m ≡ true →
      handle k d t from m ≡ Took v outs → saying.All (is_own k) outs × Due k v M.start e outs M.lines)
      (restart : (e k : ℕ) (d : Disk) (M : Seen) → H (down k d M) → HoldsSo (down k d M) →
      Due k (parts_in k (d.inc + 1) d) M.start e (restart_outs hd k (d.inc + 1) d) M.lines)
      (first : IsAtStarts hd HoldsSo) where
    coord_walk : (e k : ℕ) (d : Disk) (t : Parts) (c : Coord) (es : List Effect) (M N : Seen) → N.nodes ≡ M.nodes → N.start ≡ M.start →
        N.lines ≡ M.lines → ArePlain es → HoldsSo (up k d t M) → Walks HoldsSo e k es (Up HoldsSo k (with_coord t c)) d N
    coord_walk e k d t c es M N nodes start lines plain h =
        walk k e (with_coord t c) es d N (own_all k es plain)
        (λ j n z other there live. subst (λ st. F j z st N.lines) (sym start) (subst (F j z M.start) (sym lines)
        (off_of k d (Some t) M h j n z other ((λ i. (sym nodes) i j) ∙ there) live)))
        (subst (λ st. G st N.lines) (sym start) (subst (G M.start) (sym lines) h.0))
        (plain_due k (with_coord t c) N.start e es plain N.lines
        (subst (λ st. G st N.lines) (sym start) (subst (G M.start) (sym lines) h.0))
        (coord k t c N.start N.lines (subst (λ st. F k t st N.lines) (sym start) (subst (F k t M.start) (sym lines) (own_of k d t M h)))))

    pub nodes_keep : KeepsGiven hd H HoldsSo
    nodes_keep = record {
      quiet = λ e bs M quiet g h. (
        more_so (G M.start) (λ ls f b is x. stays M.start ls f b is x) e bs quiet M.lines h.0,
        λ j n t there live. more_so (F j t M.start) (λ ls f b is x. keeps j t M.start ls f b is x) e bs quiet M.lines
            (h.1 j n t there live),
      );
      stop = λ e k d live M g h. halts_so k e d M h.0 (off_of k d live M h);
      message = λ e k d t v from m outs M g h there meant is.
          let r = message e k d t v from m outs M g h there meant is in
          walk k e v outs d M r.0 (off_of k d (Some t) M h) h.0 r.1;
      act = λ e k d t i M is none g h. let did = does i d.intents t.coord in
          coord_walk e k d t did.part did.outs M M refl refl refl (coord_all did.outs (acts_own i d.intents t.coord)) h;
      begin = λ e k d t l how parent M new may none g h.
          let did = begin_action l how parent (parent_of parent t.coord) t.coord in
          coord_walk e k d t did.part did.outs M (given l (record { node = k; serial = is_serial how }) M) refl refl refl
          (coord_all did.outs (acts_own (input.Begin l how parent) d.intents t.coord)) h;
      tick = λ e k d t M g h. let r = again_all t.coord.doings t.coord in
          coord_walk e k d t r.part (tick_outs (record { number = k; disk = d; live = Some t }) t) M M refl refl refl
          (all_both (saying.says is_plain) (r.outs ++ tolds_again t.coord.telling) (map query_about (holders d t))
          (all_both (saying.says is_plain) r.outs (tolds_again t.coord.telling) (coord_all r.outs (again_own t.coord.doings t.coord))
          (coord_all (tolds_again t.coord.telling) (tolds_again_own t.coord.telling)))
          (saying.map_says is_plain query_about (holders d t) (λ u. refl))) h;
      restart = λ e k d M g h. walk k e (parts_in k (d.inc + 1) d) (restart_outs hd k (d.inc + 1) d) d M
          (saying.restart_says (is_own k) hd k (d.inc + 1) d (λ b is. plain_own k b (coord_plain b is)) (λ is u o how. refl) (λ u. refl)
          (same_number k)) (off_of k d None M h) h.0 (restart e k d M g h);
      first = first;
    }
