-- A new map: its writer and its readers.
use Rattle.mst_sharded_script.proofs.Names.{◌≡◌, ℕ, ◌-◌, List, [], Option, Some, IfSome, length, map, ap, subst, ◌∙◌, arith, Whole, Shards, Dealt, first_lots, IsWriterOf, HasMade, reader_of, AreNewOf, Opens}
use Rattle.std.proofs.lemmas.List.{length-map}
use Rattle.mst_words.specs.declared.view.Shape.{Shape}
use Rattle.mst_shards.proofs.Dealing.{length-first_lots}

-- what is said of what is there
pub if_is : {T : Type 0} (P : T → Type 0) (d : Option T) (x : T) → d ≡ Some x → IfSome d P → P x
if_is P d x is some = subst (λ o. IfSome o P) is some

-- there is a reader for each pass that the words name
pub count_readers : (splits : List (List ℕ)) (shape : Shape) (w : Whole) (readers : List Whole)
    → Opens splits shape w readers → length readers ≡ shape.passes
count_readers splits shape w readers o =
    let s = o.shards in
    let n : ℕ = s.directory.passes - 1 in
    let long = ap (λ (l : List Whole). length l) o.new.readers_are in
    let mapped = length-map (first_lots s.stores s.directory n) (reader_of s.splits) in
    let lots = length-first_lots s.stores s.directory n in
    let passes = o.shaped.directory_shaped.1 in
    omega (arith, long, mapped, lots, passes)

-- what was dealt of a map
pub new_of : (m : Shards) (w : Whole) (lots : List Dealt) (readers : List Whole)
    → IsWriterOf m w → HasMade [] w → readers ≡ map (reader_of m.splits) lots
    → lots ≡ first_lots m.stores m.directory (m.directory.passes - 1) → AreNewOf m w readers
new_of m w lots readers own none made dealt = record {
  own = own;
  none = none;
  readers_are = made ∙ ap (λ (l : List Dealt). map (reader_of m.splits) l) dealt;
}
