-- What of node_core may go to another thread.
use denote.Param.Send.{IsSend, IsSync, view_send, view_sync, sendable}
use denote.Param.SendFields.{declared_send, declared_sync}
use Rattle.node_core.specs.contracts.node.Node as Node
use Rattle.node_core.specs.contracts.node.Node.TheInside as NodeInside
use Rattle.node_sends.proofs.NodeParts as node_parts

node_fields_send : IsSend NodeInside.the_row
node_fields_send = declared_send NodeInside.the_type (search sendable depth 20, (node_parts.node_parts_send, tt))

pub node_send : IsSend Node.the_row
node_send = view_send _ _ _ _ _ node_fields_send

node_fields_sync : IsSync NodeInside.the_row
node_fields_sync = declared_sync NodeInside.the_type (search sendable depth 20, (node_parts.node_parts_sync, tt))

pub node_sync : IsSync Node.the_row
node_sync = view_sync _ _ _ _ _ node_fields_sync
