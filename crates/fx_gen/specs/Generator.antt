-- Lines that are drawn from a seed. docs/INPUT.md of this repository lists them; each puts or deletes a resource of Calico's
-- resource reference (`projectcalico.org/v3`). The numbers are those of the linear congruential generator of Knuth's MMIX
-- (D. E. Knuth, The Art of Computer Programming, volume 2, sections 3.2.1 and 3.3.4).
use Rattle.std.specs.Prelude.{ℕ, ◌+◌, ◌*◌, ◌/◌, ◌%◌, ◌^◌, ◌==◌, nat_lt, if◌then◌else◌, List, ◌++◌, take, codes, decimal}

-- ---- numbers

abbrev pub multiplier : ℕ
multiplier = 6364136223846793005

abbrev pub increment : ℕ
increment = 1442695040888963407

-- what follows a number in the sequence
abbrev pub following : ℕ → ℕ
following x = (x * multiplier + increment) % 2 ^ 64

-- the number that a line is drawn by: the upper 31 bits of what follows the seed, moved on by one and by the line's index
abbrev pub drawn : ℕ → ℕ → ℕ
drawn seed index = following (seed + index + 1) / 2 ^ 33

-- ---- what a number says

-- which kind of line, of 16
abbrev pub choice_of : ℕ → ℕ
choice_of draw = draw % 16

-- of 64: which endpoint, and which nets
abbrev pub place_of : ℕ → ℕ
place_of draw = draw / 16 % 64

-- which role, of 8
abbrev pub role_of : ℕ → ℕ
role_of draw = draw / 1024 % 8

-- the role from which a policy of this role allows packets
abbrev pub next_role : ℕ → ℕ
next_role role = (role + 1) % 8

-- which policy, of 16, and which network set, of 4
abbrev pub policy_at : ℕ → ℕ
policy_at place = place % 16

abbrev pub set_at : ℕ → ℕ
set_at place = place % 4

-- the node of the endpoint: half of the endpoints are on another one, whose name is no longer than a name may be
abbrev pub node_at : ℕ → List ℕ → List ℕ
node_at place node = if nat_lt place 32 then node else take 253 (codes "other-" ++ node)

-- ---- parts of resources

abbrev pub role_labels : ℕ → List ℕ
role_labels role = codes "\"labels\":{\"role\":\"r" ++ (decimal role ++ codes "\"}")

-- the member of a policy or of a rule's source that selects a role
abbrev pub role_test : ℕ → List ℕ
role_test role = codes "\"selector\":\"role == 'r" ++ (decimal role ++ codes "'\"")

abbrev pub role_selector : ℕ → List ℕ
role_selector role = codes "{" ++ (role_test role ++ codes "}")

-- an endpoint's metadata without its labels, up to the bracket that closes it
abbrev pub endpoint_name : ℕ → List ℕ
endpoint_name place = codes "{\"name\":\"w" ++ (decimal place ++ codes "\",\"namespace\":\"a\"")

abbrev pub endpoint_key : ℕ → List ℕ
endpoint_key place = endpoint_name place ++ codes "}"

abbrev pub endpoint_metadata : ℕ → ℕ → List ℕ
endpoint_metadata place role = endpoint_name place ++ (codes "," ++ (role_labels role ++ codes "}"))

-- the name of the endpoint's interface, behind its node
abbrev pub endpoint_interface : ℕ → List ℕ
endpoint_interface place = codes "\",\"interfaceName\":\"cali" ++ (decimal place ++ codes "\",")

-- the endpoint's address and its profile
abbrev pub endpoint_address : ℕ → List ℕ
endpoint_address place = codes "\"ipNetworks\":[\"10.0." ++ (decimal place ++ codes ".1\"],\"profiles\":[\"open\"]}")

abbrev pub endpoint_spec : ℕ → List ℕ → List ℕ
endpoint_spec place node =
    codes "{\"node\":\"" ++ (node_at place node ++ (endpoint_interface place ++ endpoint_address place))

abbrev pub policy_key : ℕ → List ℕ
policy_key place = codes "{\"name\":\"g" ++ (decimal (policy_at place) ++ codes "\"}")

-- TCP from the endpoints and network sets of a role
abbrev pub allow_rule : ℕ → List ℕ
allow_rule role = codes "{\"action\":\"Allow\",\"protocol\":\"TCP\",\"source\":" ++ (role_selector role ++ codes "}")

-- all from a net of endpoints
abbrev pub deny_rule : ℕ → List ℕ
deny_rule place = codes "{\"action\":\"Deny\",\"source\":{\"nets\":[\"10.0." ++ (decimal place ++ codes ".0/24\"]}}")

abbrev pub policy_order : ℕ → List ℕ
policy_order role = codes "{\"order\":" ++ (decimal role ++ codes ",")

abbrev pub policy_rules : ℕ → ℕ → List ℕ
policy_rules place role =
    codes ",\"ingress\":[" ++ (allow_rule (next_role role) ++ (codes "," ++ (deny_rule place ++ codes "]}")))

abbrev pub policy_spec : ℕ → ℕ → List ℕ
policy_spec place role = policy_order role ++ (role_test role ++ policy_rules place role)

abbrev pub set_metadata : ℕ → ℕ → List ℕ
set_metadata place role =
    codes "{\"name\":\"s" ++ (decimal (set_at place) ++ (codes "\"," ++ (role_labels role ++ codes "}")))

abbrev pub set_spec : ℕ → List ℕ
set_spec place = codes "{\"nets\":[\"172.16." ++ (decimal place ++ codes ".0/24\"]}")

-- ---- lines

-- a resource up to its metadata, behind the name of the line's one member
abbrev pub resource_of : List ℕ → List ℕ
resource_of kind =
    codes "\":{\"apiVersion\":\"projectcalico.org/v3\",\"kind\":\"" ++ (kind ++ codes "\",\"metadata\":")

-- a line's one member, as far as the metadata
abbrev pub beginning : List ℕ → List ℕ → List ℕ
beginning member kind = codes "{\"" ++ (member ++ resource_of kind)

abbrev pub put_line : List ℕ → List ℕ → List ℕ → List ℕ
put_line kind metadata spec = beginning (codes "put") kind ++ (metadata ++ (codes ",\"spec\":" ++ (spec ++ codes "}}")))

abbrev pub delete_line : List ℕ → List ℕ → List ℕ
delete_line kind key = beginning (codes "delete") kind ++ (key ++ codes "}}")

abbrev pub endpoint_put : ℕ → ℕ → List ℕ → List ℕ
endpoint_put place role node = put_line (codes "WorkloadEndpoint") (endpoint_metadata place role) (endpoint_spec place node)

abbrev pub endpoint_delete : ℕ → List ℕ
endpoint_delete place = delete_line (codes "WorkloadEndpoint") (endpoint_key place)

abbrev pub policy_put : ℕ → ℕ → List ℕ
policy_put place role = put_line (codes "GlobalNetworkPolicy") (policy_key place) (policy_spec place role)

abbrev pub policy_delete : ℕ → List ℕ
policy_delete place = delete_line (codes "GlobalNetworkPolicy") (policy_key place)

abbrev pub set_put : ℕ → ℕ → List ℕ
set_put place role = put_line (codes "GlobalNetworkSet") (set_metadata place role) (set_spec place)

-- a profile that allows all, which each endpoint lists
abbrev pub profile_put : List ℕ
profile_put =
    put_line (codes "Profile") (codes "{\"name\":\"open\"}")
    (codes "{\"ingress\":[{\"action\":\"Allow\"}],\"egress\":[{\"action\":\"Allow\"}]}")

abbrev pub chosen_line : ℕ → ℕ → ℕ → List ℕ → List ℕ
chosen_line choice place role node =
    if nat_lt choice 7 then endpoint_put place role node
    else (if nat_lt choice 9 then endpoint_delete place
    else (if nat_lt choice 13 then policy_put place role
    else (if choice == 13 then policy_delete place
    else (if choice == 14 then set_put place role
    else profile_put))))

unfoldable pub drawn_line : ℕ → List ℕ → List ℕ
drawn_line draw node = chosen_line (choice_of draw) (place_of draw) (role_of draw) node

-- The line of an index, without a newline: first the in-sync mark, then at the end of each hundred a flush, and else what is
-- drawn.
abbrev pub line_of : ℕ → ℕ → List ℕ → List ℕ
line_of seed index node =
    if index == 0 then codes "{\"inSync\":true}"
    else (if index % 100 == 99 then codes "{\"flush\":{}}"
    else drawn_line (drawn seed index) node)
