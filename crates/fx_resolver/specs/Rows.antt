-- Endpoints by their interfaces, each with some row, as the sink has them.
use Rattle.std.specs.Prelude.{◌≡◌, ℕ, Bool, false, cond, List, map, Option, Some, None}
use Rattle.std.specs.Str.{bytes_eq}
use Rattle.std.specs.FinMap as maps
use Rattle.fx_base.specs.Extended.{collected}
use Rattle.fx_model.specs.declared.ids.ItemKey.{ItemKey}
use Rattle.fx_model.specs.declared.view.ViewEndpoint.{ViewEndpoint}
use Rattle.fx_model.specs.Messages.{Named}
use Rattle.fx_resolver.specs.declared.known.KnownEndpoint.{KnownEndpoint}
use Rattle.fx_resolver.specs.Known.{KnownEndpoints}

-- a row for each endpoint
abbrev pub RowFor : Type 0
RowFor = ItemKey → KnownEndpoint → ViewEndpoint

abbrev pub entry_by : RowFor → ItemKey × KnownEndpoint → List ℕ × ViewEndpoint
entry_by row x = (x.1.iface, row x.0 x.1)

abbrev pub rows_by : RowFor → KnownEndpoints → Named ViewEndpoint
rows_by row endpoints = collected (map (entry_by row) (maps.entries endpoints))

-- the row of an endpoint that is there is put in
abbrev pub with_row : RowFor → ItemKey → Option KnownEndpoint → Named ViewEndpoint → Named ViewEndpoint
with_row row i None told = told
with_row row i (Some e) told = maps.insert told e.iface (row i e)

-- the row of an endpoint that is there is taken out
abbrev pub without_row : Option KnownEndpoint → Named ViewEndpoint → Named ViewEndpoint
without_row None told = told
without_row (Some e) told = maps.remove told e.iface

-- an endpoint that is there, if it has another interface than this one
abbrev pub if_other : List ℕ → Option KnownEndpoint → Option KnownEndpoint
if_other iface None = None
if_other iface (Some e) = cond (bytes_eq e.iface iface) None (Some e)

-- each endpoint has its row, but for some items, and nothing else is there
pub record IsToldBut (row : RowFor) (endpoints : KnownEndpoints) (but : ItemKey → Bool) (told : Named ViewEndpoint) : Type 0 where
  pub there : (i : ItemKey) (e : KnownEndpoint) → maps.get endpoints i ≡ Some e → but i ≡ false → maps.get told e.iface ≡ Some (row i e)
  pub others : (q : List ℕ) → ((i : ItemKey) (e : KnownEndpoint) → maps.get endpoints i ≡ Some e → e.iface ≡ q → ⊥) → maps.get told q ≡ None
