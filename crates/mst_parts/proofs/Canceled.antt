-- A block that is taken back: the writer that began it has made nothing.
use Rattle.mst_parts.proofs.Names.{◌≡◌, ℕ, List, refl, sym, ap, ◌∙◌, subst, Known, Blocks, Whole, whole, Shards, AllStep, MakesNothing, LeavesAll, IsWriterOf, HasMade, writes_still, made_no_block, left_keeps, Origin, Begun, begun, passes_of, IsBlockOf}
use Rattle.mst_blocks.specs.Writing.{block_map}
use Rattle.mst_blocks.proofs.Blocked.{map_still}
use Rattle.mst_blocks.proofs.Committing.{same_nothing}

module _ (s : Shards) (os given : List Origin) (qs : List Known) (d : Known) (self : Begun)
    (as_given : given ≡ os) (as_self : begun s.splits os d ≡ self)
    (b : IsBlockOf s (begun s.splits os d)) (nothing : AllStep MakesNothing (passes_of given) qs)
  where
    abbrev now : Whole
    now = whole s.splits qs d

    left : LeavesAll (passes_of os) qs d d
    left = record {
      shards = subst (λ (l : List Origin). AllStep MakesNothing (passes_of l) qs) as_given nothing;
      directory = same_nothing d d refl;
    }

    pub taken_writer : IsWriterOf s now
    taken_writer = record {
      own = (left_keeps (passes_of os) qs d d left).0 ∙ b.own.own;
      directory = b.own.directory;
      writer = writes_still s.splits (passes_of os) qs d d b.own.writer left;
    }

    pub taken_splits : (v : Whole) → v ≡ now → v.sharding.splits ≡ self.writer.sharding.splits
    taken_splits v is =
        ap (λ (w : Whole). w.sharding.splits) is
        ∙ ap (λ (x : Begun). x.writer.sharding.splits) as_self

    pub taken_left : (v : Whole) → v ≡ now
        → LeavesAll self.writer.sharding.shards v.sharding.shards self.writer.directory v.directory
    taken_left v is =
        subst (λ (w : Whole). LeavesAll self.writer.sharding.shards w.sharding.shards
        self.writer.directory w.directory) (sym is)
        (subst (λ (x : Begun). LeavesAll x.writer.sharding.shards qs x.writer.directory d) as_self
        left)

    pub taken_map : (v : Whole) → v ≡ now → block_map v ≡ block_map self.writer
    taken_map v is =
        ap block_map is ∙ map_still s.splits (passes_of os) qs d d b.own.writer left
        ∙ ap (λ (x : Begun). block_map x.writer) as_self

    pub taken_same : (v : Whole) → v ≡ now → (blocks : Blocks) → HasMade blocks self.writer
        → HasMade blocks v
    taken_same v is blocks h =
        subst (HasMade blocks) (sym is)
        (made_no_block blocks s.splits (passes_of os) qs d d b.own.writer left
        (subst (λ (x : Begun). HasMade blocks x.writer) (sym as_self) h))
