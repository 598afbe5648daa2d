-- What is tested of the world that is kept.
use Rattle.std.proofs.Common.{◌≡◌, ℕ, zero, suc, ◌+◌, ◌-◌, ◌≤◌, ◌<◌, Bool, true, false, ◌&&◌, ◌||◌, ◌==◌, ◌≢◌, List, [], ◌∷◌, length, map}
use Rattle.std.proofs.Common.{drop, get_or, refl, ap, sym, ◌∙◌, subst, Option, Some, None, arith}
use Rattle.std.specs.Prelude.{find, if◌then◌else◌, is_some, nat_le, not, slice_get, Result, Ok, Err}
use Rattle.std.specs.List.{list_all, list_any}
use Rattle.std.proofs.lemmas.List.{append-nil}
use Rattle.std.proofs.lemmas.Option.{slice_get_read}
use Rattle.std.specs.BTreeMap.{is_at}
use Rattle.std.specs.Option.{option_map}
use Rattle.arj_core.specs.declared.node.Core.{Ghosts}
use Rattle.arj_core.specs.Steps.{message_of, whole_message}
use Rattle.arj_disk.specs.FileMap.{FileMap}
use Rattle.arj_journal.specs.declared.header.Header.{Header}
use Rattle.arj_journal.specs.declared.header.ObjectLine.{ObjectLine}
use Rattle.arj_msg.specs.Layout.{MessageInForm, message, message_bytes}
use Rattle.arj_msg.proofs.Laws.{IsBytes}
use Rattle.arj_msg.proofs.MessageLaws.{message_lawful}
use Rattle.arj_net.specs.declared.net.Sent as net
use Rattle.arj_net.specs.Net as nets
use Rattle.arj_protocol.specs.Step.{Node, class_in, first_reason, is_idle}
use Rattle.arj_protocol.specs.Tree.{at_place}
use Rattle.arj_protocol.specs.Words.{Label, Message, label_cmp, read_message}
use Rattle.arj_protocol.specs.World as protocol
use Rattle.arj_protocol.specs.World.{World, reads_whole}
use Rattle.arj_world.specs.Stands.{AreSomeNodes, Hand, Keeps, Kept, Stands}
use Rattle.arj_world.specs.Turns.{with_arms}
use Rattle.arj_world.specs.Wire.{frame_of}
use Rattle.arj_world.proofs.Stepping.{is_there}
use Rattle.arj_world.proofs.Frames.{frame_at}

-- ---- the first reason that holds

pub refuses : (a : ℕ) (p : Bool) (rest : List (ℕ × Bool)) → p ≡ true → Some a ≡ first_reason ((a, p) ∷ rest)
refuses a p rest holds = ap (λ b. first_reason ((a, b) ∷ rest)) (sym holds)

pub passes : (a : ℕ) (p : Bool) (rest : List (ℕ × Bool)) (o : Option ℕ) → p ≡ false → o ≡ first_reason rest →
    o ≡ first_reason ((a, p) ∷ rest)
passes a p rest o fails later = later ∙ ap (λ b. first_reason ((a, b) ∷ rest)) (sym fails)

-- ---- labels

-- the label of an action that the run began
pub label_passes : (l : Label) (w : World) → true ≡ protocol.is_known l w → false ≡ protocol.was_given l w →
    None ≡ first_reason ((5, not (protocol.is_known l w)) ∷ (6, protocol.was_given l w) ∷ [])
label_passes l w known given =
    passes 5 (not (protocol.is_known l w)) ((6, protocol.was_given l w) ∷ []) None (ap not (sym known))
    (passes 6 (protocol.was_given l w) [] None (sym given) refl)

-- of one that had ended before it
pub label_ended : (l : Label) (w : World) → true ≡ protocol.is_known l w → true ≡ protocol.was_given l w →
    Some 6 ≡ first_reason ((5, not (protocol.is_known l w)) ∷ (6, protocol.was_given l w) ∷ [])
label_ended l w known given =
    passes 5 (not (protocol.is_known l w)) ((6, protocol.was_given l w) ∷ []) (Some 6) (ap not (sym known))
    (refuses 6 (protocol.was_given l w) [] (sym given))

-- of none
pub label_refused : (l : Label) (w : World) → false ≡ protocol.is_known l w →
    Some 5 ≡ first_reason ((5, not (protocol.is_known l w)) ∷ (6, protocol.was_given l w) ∷ [])
label_refused l w known = refuses 5 (not (protocol.is_known l w)) ((6, protocol.was_given l w) ∷ []) (ap not (sym known))

-- a label for a new action
pub new_passes : (l : Label) (rest : List (ℕ × Bool)) (o : Option ℕ) (w : World) → false ≡ protocol.is_known l w →
    o ≡ first_reason rest → o ≡ first_reason ((4, protocol.is_known l w) ∷ rest)
new_passes l rest o w known later = passes 4 (protocol.is_known l w) rest o (sym known) later

pub new_refused : (l : Label) (rest : List (ℕ × Bool)) (w : World) → true ≡ protocol.is_known l w →
    Some 4 ≡ first_reason ((4, protocol.is_known l w) ∷ rest)
new_refused l rest w known = refuses 4 (protocol.is_known l w) rest (sym known)

-- ---- numbers of nodes

pub node_yes : (n count : ℕ) → 1 ≤ n → n ≤ count → (nat_le 1 n && nat_le n count) ≡ true
node_yes n count low high = grind (arith, low, high)

pub node_no : (n count : ℕ) → (1 ≤ n → n ≤ count → ⊥) → (nat_le 1 n && nat_le n count) ≡ false
node_no n count out = by (nat_le 1 n) refl (nat_le n count) refl
  where
    by : (a : Bool) → nat_le 1 n ≡ a → (b : Bool) → nat_le n count ≡ b → (nat_le 1 n && nat_le n count) ≡ false
    by false one b two = rw one refl
    by true one false two = rw (one, two) refl
    by true one true two = absurd (out (grind (arith, one)) (grind (arith, two)))

module _ {C : Type 0} (core : Ghosts C) where
  pub is_node : (n : ℕ) (k : Kept C) (w : World) → Keeps core k w → 1 ≤ n → n ≤ k.header.nodes → protocol.is_node n w ≡ true
  is_node n k w keeps low high = (λ i. let hd = keeps.header i in nat_le 1 n && nat_le n hd.nodes) ∙ node_yes n k.header.nodes low high

  pub is_no_node : (n : ℕ) (k : Kept C) (w : World) → Keeps core k w → (1 ≤ n → n ≤ k.header.nodes → ⊥) → protocol.is_node n w ≡ false
  is_no_node n k w keeps out = (λ i. let hd = keeps.header i in nat_le 1 n && nat_le n hd.nodes) ∙ node_no n k.header.nodes out

  -- ---- nodes that are up

  -- the core of a node says whether it is up
  abbrev pub Tells : ℕ → Bool → Kept C → Type 0
  Tells node b k =
      (c : C) → slice_get k.cores (node - 1) ≡ Some c → (header : Header) (f : FileMap) (n : Node) → core.stands header c f n →
      b ≡ is_some n.live

  pub up_at : (node : ℕ) (b : Bool) (k : Kept C) (w : World) → 1 ≤ node → node ≤ k.header.nodes → Keeps core k w → Tells node b k →
      protocol.is_up_at node w ≡ b
  up_at zero b k w low high keeps says = absurd (omega (arith, low))
  up_at (suc j) b k w low high keeps says =
      let c = is_there j k.cores (omega (arith, high, keeps.count)) in
      let n = is_there j w.nodes (omega (arith, high, keeps.count, keeps.nodes.count)) in
      let st = keeps.nodes.each j c.0 n.0 c.1 n.1 in
      ap protocol.is_up n.1 ∙ sym (says c.0 (ap (slice_get k.cores) (omega arith) ∙ c.1) k.header st.0 n.0 st.1)

  -- ---- frames

  pub frame_there : (k : ℕ) (kept : Kept C) (w : World) → Keeps core kept w →
      is_some (at_place k w.frames) ≡ is_some (nets.frame_of kept.net k)
  frame_there k kept w keeps =
      ap (λ fs. is_some (at_place k fs)) keeps.frames ∙ ap is_some (frame_at k kept.net) ∙ either (nets.sent_as kept.net k)
    where
      either : (o : Option net.Sent) → is_some (option_map frame_of o) ≡ is_some (option_map (λ (s : net.Sent). s.frame) o)
      either None = refl
      either (Some s) = refl

  pub frame_count : (kept : Kept C) (w : World) → Keeps core kept w → length w.frames ≡ length kept.net
  frame_count kept w keeps = ap length keeps.frames ∙ counted kept.net
    where
      counted : (sent : List net.Sent) → length (map frame_of sent) ≡ length sent
      counted [] = refl
      counted (s ∷ ss) = ap suc (counted ss)

  -- ---- labels

  -- whether one of them was given before the run began
  pub given_is : (l : Label) (b : Bool) (k : Kept C) (w : World) → Keeps core k w → b ≡ list_any (is_at (label_cmp l)) k.given →
      b ≡ protocol.was_given l w
  given_is l b k w keeps is = is ∙ ap (list_any (is_at (label_cmp l))) (sym keeps.given)

  pub keeps_armed : (k : Kept C) (w : World) (arms : List (ℕ × protocol.Arm)) → Keeps core k w → Keeps core k (with_arms arms w)
  keeps_armed k w arms keeps =
      record {
        header = keeps.header;
        given = keeps.given;
        frames = keeps.frames;
        labels = keeps.labels;
        nodes = keeps.nodes;
        count =
            keeps.count;
      }

module _ {C D : Type 0} (core : Ghosts C) (file : D → FileMap) where
  -- a world in hand is kept
  pub keeps_of : (h : Hand C D) (w : World) → Stands core file h w → Keeps core h.kept w
  keeps_of h w st = record {
    header = st.header;
    given = st.given;
    frames = st.frames;
    labels = st.labels;
    nodes = record {
      count = st.nodes.nodes_count ∙ sym st.nodes.cores_count;
      each = λ i c n at_core at_node.
          let d = is_there i h.disks (omega (arith, within i c h.kept.cores at_core, st.nodes.cores_count, st.nodes.disks_count)) in
          (file d.0, st.nodes.each i c d.0 n at_core d.1 at_node);
    };
    count = st.nodes.cores_count;
  }
    where
      within : (i : ℕ) (c : C) (cores : List C) → slice_get cores i ≡ Some c → i < length cores
      within i c [] is = absurd (cc is)
      within zero c (x ∷ xs) is = omega arith
      within (suc i) c (x ∷ xs) is = let less : i < length xs = within i c xs is in omega (arith, less)

-- ---- objects

pub any_line : (x : ℕ) (os : List ObjectLine) →
    list_any (λ (o : ObjectLine). o.x == x) os ≡ is_some (class_in (find (λ (o : ObjectLine). o.x == x) os))
any_line x [] = refl
any_line x (o ∷ os) = by (o.x == x) (any_line x os)
  where
    by : (b : Bool) → list_any (λ (o : ObjectLine). o.x == x) os ≡ is_some (class_in (find (λ (o : ObjectLine). o.x == x) os)) →
        (b || list_any (λ (o : ObjectLine). o.x == x) os) ≡ is_some (class_in (if b then Some o else find (λ (o : ObjectLine). o.x == x) os))
    by true later = refl
    by false later = later

-- ---- bytes that are a message

pub is_one : (bytes : List ℕ) (m : Message) → MessageInForm m → message_bytes m ≡ bytes → reads_whole (read_message bytes) ≡ true
unfolding read_message
is_one bytes m fits are =
    ap (λ bs. reads_whole (message.read bs)) (sym are ∙ sym (append-nil (message_bytes m))) ∙ ap reads_whole (message_lawful.again m [] fits)

pub is_none_of : (bytes : List ℕ) → IsBytes bytes → ((m : Message) → MessageInForm m → message_bytes m ≢ bytes) →
    reads_whole (read_message bytes) ≡ false
unfolding read_message
is_none_of bytes are none = by (message.read bytes) refl
  where
    by : (r : Result (Message × List ℕ) ℕ) → message.read bytes ≡ r → reads_whole r ≡ false
    by (Err n) is = refl
    by (Ok (m, b ∷ rest)) is = refl
    by (Ok (m, [])) is =
        let found = message_lawful.found bytes m [] are is in absurd (none m found.0 (sym (found.1 ∙ append-nil (message_bytes m))))

-- ---- a node that is there

module _ {C : Type 0} (core : Ghosts C) (node n : ℕ) (k : Kept C) (w : World) (same : n ≡ node) (low : 1 ≤ n) (high : n ≤ k.header.nodes) (keeps : Keeps core k w) where
  pub there : not (protocol.is_node node w) ≡ false
  there = subst (λ m. not (protocol.is_node m w) ≡ false) same (ap not (is_node core n k w keeps low high))

  pub stands_up : (b : Bool) → Tells core n b k → protocol.is_up_at node w ≡ b
  stands_up b says = subst (λ m. protocol.is_up_at m w ≡ b) same (up_at core n b k w low high keeps says)

-- ---- cores that are asked one after another

drop_at : {A : Type 0} (k : ℕ) (xs : List A) (a : A) → slice_get xs k ≡ Some a → drop k xs ≡ a ∷ drop (suc k) xs
drop_at k [] a at = absurd (cc at)
drop_at zero (x ∷ xs) a at = let same : x ≡ a = cc at in ap (λ y. y ∷ xs) same
drop_at (suc k) (x ∷ xs) a at = drop_at k xs a at

drop_none : {A : Type 0} (k : ℕ) (xs : List A) → length xs ≤ k → drop k xs ≡ []
drop_none zero [] h = refl
drop_none (suc k) [] h = refl
drop_none zero (x ∷ xs) h = absurd (omega (arith, h))
drop_none (suc k) (x ∷ xs) h = drop_none k xs (omega (arith, h))

module _ {C : Type 0} (core : Ghosts C) where
  -- one more says whether it is quiet
  pub idle_next : (k : ℕ) (b : Bool) (c : C) (header : Header) (cores : List C) (nodes : List Node) → AreSomeNodes core header cores nodes →
      k < length cores → c ≡ get_or cores k c
      → ((hd : Header) (f : FileMap) (n : Node) → core.stands hd c f n → b ≡ is_idle n) →
      list_all is_idle (drop k nodes) ≡ (b && list_all is_idle (drop (k + 1) nodes))
  idle_next k b c header cores nodes are less here says =
      let n = is_there k nodes (omega (arith, less, are.count)) in
      let st = are.each k c n.0 (slice_get_read cores (length cores) k c refl less here) n.1 in
      let next : suc k ≡ k + 1 = omega arith in
      ap (list_all is_idle) (drop_at k nodes n.0 n.1) ∙ (λ i. sym (says header st.0 n.0 st.1) i && list_all is_idle (drop (next i) nodes))

  pub idle_end : (k : ℕ) (header : Header) (cores : List C) (nodes : List Node) → AreSomeNodes core header cores nodes → length cores ≤ k →
      list_all is_idle (drop k nodes) ≡ true
  idle_end k header cores nodes are all = ap (list_all is_idle) (drop_none k nodes (omega (arith, all, are.count)))

-- ---- what an accepted event knows

-- a reason that doesn't hold, and those behind it
pub passed : (a : ℕ) (p : Bool) (rest : List (ℕ × Bool)) → None ≡ first_reason ((a, p) ∷ rest) → (p ≡ false) × (None ≡ first_reason rest)
passed a true rest is = absurd (cc is)
passed a false rest is = (refl, is)

in_count : (n count : ℕ) → not (nat_le 1 n && nat_le n count) ≡ false → (1 ≤ n) × (n ≤ count)
in_count n count is = by (nat_le 1 n) refl (nat_le n count) refl
  where
    by : (a : Bool) → nat_le 1 n ≡ a → (b : Bool) → nat_le n count ≡ b → (1 ≤ n) × (n ≤ count)
    by true one true two = (grind (arith, one), grind (arith, two))
    by true one false two = absurd (cc (sym is ∙ (λ i. not (one i && two i))))
    by false one b two = absurd (cc (sym is ∙ (λ i. not (one i && two i))))

-- a node that the first reason asks for is there
pub in_range : {C : Type 0} (core : Ghosts C) (n : ℕ) (rest : List (ℕ × Bool)) (k : Kept C) (w : World) → Keeps core k w →
    None ≡ first_reason ((1, not (protocol.is_node n w)) ∷ rest) → (1 ≤ n) × (n ≤ k.header.nodes)
in_range core n rest k w keeps is =
    let p = passed 1 (not (protocol.is_node n w)) rest is in
    in_count n k.header.nodes (sym (λ i. let hd = keeps.header i in not (nat_le 1 n && nat_le n hd.nodes)) ∙ p.0)

-- bytes that are no message
pub no_message : (bytes : List ℕ) → reads_whole (read_message bytes) ≡ false → message_of bytes ≡ None
no_message bytes is = by (read_message bytes) is
  where
    by : (r : Result (Message × List ℕ) ℕ) → reads_whole r ≡ false → whole_message r ≡ None
    by (Err n) is = refl
    by (Ok (m, b ∷ rest)) is = refl
    by (Ok (m, [])) is = absurd (cc is)
