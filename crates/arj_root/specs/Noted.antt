-- Lists of what was done and heard, with their items' paths by number.
use Rattle.std.specs.Prelude.{◌≡◌, ℕ, Bool, ◌&&◌, ◌==◌, if◌then◌else◌, List, [], ◌∷◌, ◌++◌, unwrap_or}
use Rattle.arj_protocol.specs.Coord.{Coord, Root, Said, Went, new_coord, no_root, same_flag}
use Rattle.arj_protocol.specs.Order.{at_number, put_number}
use Rattle.arj_protocol.specs.Tree.{Tree}
use Rattle.arj_protocol.specs.Words.{Uid}

-- a coordinator with this tree: what survives is a question on the tree alone
abbrev pub of_tree : Tree → Coord
of_tree t = record (new_coord t.node t.inc) { tree = t }

-- a root with these calls, and one with these sends
abbrev pub of_calls : List Said → Root
of_calls said = record no_root { said = said }

-- a root with these sends alone
abbrev pub of_sends : List Went → Root
of_sends went = record no_root { went = went }

-- paths, by a number
abbrev pub Index : Type 0
Index = List (ℕ × List (List Uid))

-- the paths at a number
abbrev pub listed : ℕ → Index → List (List Uid)
listed k m = unwrap_or (at_number k m) []

-- one more path at a number
abbrev pub indexed : ℕ → List Uid → Index → Index
indexed k p m = put_number k (listed k m ++ p ∷ []) m

-- the paths of the items that pass
abbrev pub paths_by : {A : Type 0} → (A → Bool) → (A → List Uid) → List A → List (List Uid)
paths_by on path [] = []
paths_by on path (a ∷ rest) = if on a then path a ∷ paths_by on path rest else paths_by on path rest

-- a call on this object
abbrev pub is_call_on : ℕ → Said → Bool
is_call_on x s = s.x == x

-- a send to this node, of an Invoke or not
abbrev pub is_send_to : Bool → ℕ → Went → Bool
is_send_to invoke n w = (w.node == n) && same_flag w.invoke invoke

-- the index has the calls by object
abbrev pub HasCalls : Index → List Said → Type 0
HasCalls m said = (x : ℕ) → listed x m ≡ paths_by (is_call_on x) (λ s. s.path) said

-- and that of the sends, of one kind, by node
abbrev pub HasSends : Bool → Index → List Went → Type 0
HasSends invoke m went = (n : ℕ) → listed n m ≡ paths_by (is_send_to invoke n) (λ w. w.path) went
