-- Whether two items give sets the same members: endpoints with the same addresses and ports do, and network sets with the same nets.
use Rattle.std.specs.Prelude.{Bool, false, ◌&&◌, Option, Some, None}
use Rattle.std.specs.Cmp.Lexicographic.{pointwise}
use Rattle.fx_base.specs.contracts.net.Ipv4PartialEq.TheImpl as address
use Rattle.fx_base.specs.contracts.net.NetPartialEq.TheImpl as net
use Rattle.fx_model.specs.contracts.resources.EndpointPortPartialEq.TheImpl as port
use Rattle.fx_model.specs.declared.resources.Item.{Item}
use Rattle.fx_model.specs.declared.resources.Item.TheVariants as item

abbrev pub same_given : Item → Item → Bool
same_given (item.Endpoint a) (item.Endpoint b) =
    pointwise address.eq-value.it a.addresses b.addresses && pointwise port.eq-value.it a.ports b.ports
same_given (item.NetSet a) (item.NetSet b) = pointwise net.eq-value.it a.nets b.nets
same_given x y = false

-- the same of what may not be there
abbrev pub gives_same : Option Item → Item → Bool
gives_same None x = false
gives_same (Some y) x = same_given y x
