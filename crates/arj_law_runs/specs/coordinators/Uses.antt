-- Who takes part in commits: a top in which a call or an include survives, as its coordinator has it, asks somebody.
use Rattle.std.specs.Prelude.{◌≡◌, ◌≢◌, ◌⊎◌, List, [], true, Some, Contains}
use Rattle.arj_law_parts.specs.steps.Named.{HasNames}
use Rattle.arj_protocol.specs.Words.{Uid, is_on, uids_of}
use Rattle.arj_protocol.specs.Words.ending
use Rattle.arj_protocol.specs.Words.kind
use Rattle.arj_protocol.specs.Commit.{Machine, plan_of}
use Rattle.arj_protocol.specs.Coord.{Coord, Committing, Doing, Joined, Root, Said, doing_of, root_at}
use Rattle.arj_protocol.specs.Tree.{Branch, Tree, behind, branch_of, is_aborted, root_of}

-- the root was answered a call, or an include, under this path
abbrev pub IsUsed : List Uid → Root → Type 0
IsUsed us r = ((s : Said) × Contains r.said s × (s.path ≡ us)) ⊎ ((j : Joined) × Contains r.joined j × (j.path ≡ us))

-- an action behind this one on the path was aborted
abbrev pub IsCut : Tree → Uid → List Uid → Type 0
IsCut t u us = (w : Uid) × (is_on (behind u us) w ≡ true) × (is_aborted w t ≡ true)

-- a top that was committed while nobody took part in it
pub record IsAlone (c : Coord) (u : Uid) : Type 0 where
  pub branch : Branch
  pub doing : Doing
  pub found : branch_of u c.tree ≡ Some branch
  pub does : doing_of u c ≡ Some doing
  pub committed : branch.ended ≡ Some ending.Commit
  pub unnested : branch.kind ≢ kind.Nested
  pub unserial : branch.kind ≢ kind.Serial
  pub took : doing.took ≡ []

-- What a coordinator has of answered calls and includes: each is under the path of one of its actions; a commit under way uses some
-- object; and where nobody took part in a top's commit, each call and include of its root that is below it was cut off by an abort.
pub record KnowsUses (c : Coord) : Type 0 where
  pub paths : (root : Uid) (us : List Uid) → IsUsed us (root_at root c) →
      (w : Uid) × (b : Branch) × (branch_of w c.tree ≡ Some b) × (us ≡ uids_of b.path)
  pub plans : (u : Uid) (q : Doing) (m : Machine) → doing_of u c ≡ Some q → q.now ≡ Committing m → (let p = plan_of m in p.used) ≢ []
  pub alone : (u : Uid) (a : IsAlone c u) (us : List Uid) → IsUsed us (root_at (root_of (let b = a.branch in b.path)) c) →
      is_on us u ≡ true → IsCut c.tree u us

-- the labels of its actions too
pub record KnowsTops (c : Coord) : Type 0 where
  pub names : HasNames c
  pub uses : KnowsUses c
