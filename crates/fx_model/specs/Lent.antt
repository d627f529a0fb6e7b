-- The change that a message speaks of, whose values are lent.
use Rattle.fx_model.specs.declared.message.Message.{Message}
use Rattle.fx_model.specs.declared.message.Message.TheVariants as message
use Rattle.fx_model.specs.Messages.{Change, SetAdd, SetDelta, PolicyPut, ProfilePut, EndpointPut, EndpointGone, ProfileGone, PolicyGone, SetGone}

abbrev pub change_of : Message → Change
change_of (message.SetAdd name members) = SetAdd name.now members
change_of (message.SetDelta name adds removes) = SetDelta name.now adds removes
change_of (message.PolicyPut key policy) = PolicyPut key.now policy.now
change_of (message.ProfilePut key profile) = ProfilePut key.now profile.now
change_of (message.EndpointPut iface endpoint) = EndpointPut iface.now endpoint.now
change_of (message.EndpointGone iface) = EndpointGone iface.now
change_of (message.ProfileGone key) = ProfileGone key.now
change_of (message.PolicyGone key) = PolicyGone key.now
change_of (message.SetGone name) = SetGone name.now
