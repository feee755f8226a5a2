-- A world may be sent to another thread and shared with others, and so may its document and its parts, a pass for it, and a hub that keeps it. Callers name `crossing`.
use denote.Param.Send.{IsSend, IsSync, sendable}
use denote.Param.SendFields.{declared_send, declared_sync}
use Rattle.std.proofs.Crossing as heap
use Rattle.sv_app.specs.contracts.apps.App as App
use Rattle.sv_app.proofs.txns.Expr.TheLaws.TheKnot as expr_knot
use Rattle.sv_app.proofs.txns.Cond.TheLaws.TheKnot as cond_knot
use Rattle.sv_app.proofs.txns.Stmt.TheLaws.TheKnot as stmt_knot
use Rattle.sv_app.proofs.schemas.Table.TheSendSync as table
use Rattle.sv_label.proofs.dictionaries.Dictionary.TheSendSync as dictionary
use Rattle.sv_value.proofs.lists.List.TheSendSync as list
use Rattle.sv_app.proofs.requests.InitRow.TheSendSync as init_row
use Rattle.sv_app.specs.contracts.requests.InitRow as InitRow
use Rattle.sv_value.specs.contracts.lists.List as List
use Rattle.sv_value.proofs.sites.Site.TheSendSync as site
use Rattle.sv_value.proofs.cuts.Cut.TheSendSync as cut
use Rattle.sv_value.proofs.packets.Packet.TheSendSync as packet
use Rattle.sv_value.specs.contracts.packets.Packet as Packet
use Rattle.sv_core.specs.contracts.docs.Doc as Doc
use Rattle.sv_core.specs.contracts.media.Medium as Medium
use Rattle.sv_core.specs.contracts.media.Medium.TheInside as medium_inside
use Rattle.sv_core.specs.contracts.world.World as World
use Rattle.sv_core.specs.contracts.world.World.TheInside as world_inside
use Rattle.sv_core.specs.contracts.sessions.Session as Session
use Rattle.sv_core.proofs.sessions.Session.TheSendSync as session
use Rattle.sv_core.proofs.publications.Publications.TheSendSync as publications
use Rattle.sv_core.specs.contracts.docs.Item as Item
use Rattle.sv_core.specs.contracts.entries.Entry as Entry
use Rattle.sv_core.specs.contracts.sites.SiteState as SiteState
use Rattle.sv_core.proofs.docs.Item.TheSendSync as item
use Rattle.sv_core.proofs.entries.Entry.TheSendSync as entry
use Rattle.sv_pool.proofs.pools.PoolStore.TheSendSync as pool
use Rattle.sv_causal.proofs.inboxes.Inbox.TheSendSync as inbox
use Rattle.sv_hub.proofs.hubs.Hub.TheSendSync as hub
use Rattle.sv_hub.proofs.passes.Pass.TheSendSync as pass

-- statements, conditions and expressions contain each other
ruleset trees = (expr_knot.crosses, cond_knot.crosses, stmt_knot.crosses, heap.crosses, sendable)

pub app_send : IsSend App.the_row
app_send = search (table.the_send, trees) depth 40 fits 20000

pub app_sync : IsSync App.the_row
app_sync = search (table.the_sync, trees) depth 40 fits 20000

-- the lists of a document
init_send : IsSend (List.the_row InitRow.the_row)
init_send = search (list.the_send, init_row.the_send, heap.crosses, sendable) depth 40 fits 20000

init_sync : IsSync (List.the_row InitRow.the_row)
init_sync = search (list.the_sync, init_row.the_sync, heap.crosses, sendable) depth 40 fits 20000

items_sync : IsSync (List.the_row (List.the_row Item.the_row))
items_sync = search (list.the_sync, item.the_sync, heap.crosses, sendable) depth 40 fits 20000

items_send : IsSend (List.the_row (List.the_row Item.the_row))
items_send = search (list.the_send, item.the_send, heap.crosses, sendable) depth 40 fits 20000

pub doc_send : IsSend Doc.the_row
doc_send = declared_send Doc.the_type
    (app_send, (dictionary.the_send, (init_send, (search sendable, (search sendable, (search sendable, (items_send, (search sendable, (search sendable, tt)))))))))

pub doc_sync : IsSync Doc.the_row
doc_sync = declared_sync Doc.the_type
    (app_sync, (dictionary.the_sync, (init_sync, (search sendable, (search sendable, (search sendable, (items_sync, (search sendable, (search sendable, tt)))))))))

pub site_state_send : IsSend SiteState.the_row
site_state_send = declared_send SiteState.the_type (
  heap.Arc-send Doc.the_row doc_send doc_sync,
  (
    site.the_send,
    (
      pool.the_send,
      (
        cut.the_send,
        (
          heap.Vec-send Packet.the_row packet.the_send,
          (search sendable, (inbox.the_send, (search sendable, tt))),
        ),
      ),
    ),
  ),
)

pub site_state_sync : IsSync SiteState.the_row
site_state_sync = declared_sync SiteState.the_type (
  heap.Arc-sync Doc.the_row doc_send doc_sync,
  (
    site.the_sync,
    (
      pool.the_sync,
      (
        cut.the_sync,
        (
          heap.Vec-sync Packet.the_row packet.the_sync,
          (search sendable, (inbox.the_sync, (search sendable, tt))),
        ),
      ),
    ),
  ),
)

medium_inside_send : IsSend medium_inside.the_row
medium_inside_send = declared_send medium_inside.the_type (
  heap.Arc-send Doc.the_row doc_send doc_sync,
  (
    heap.Vec-send Entry.the_row entry.the_send,
    (
      publications.the_send,
      (heap.Vec-send Session.the_row session.the_send, tt),
    ),
  ),
)

medium_inside_sync : IsSync medium_inside.the_row
medium_inside_sync = declared_sync medium_inside.the_type (
  heap.Arc-sync Doc.the_row doc_send doc_sync,
  (
    heap.Vec-sync Entry.the_row entry.the_sync,
    (
      publications.the_sync,
      (heap.Vec-sync Session.the_row session.the_sync, tt),
    ),
  ),
)

pub medium_send : IsSend Medium.the_row
medium_send = search (medium_inside_send, sendable)

pub medium_sync : IsSync Medium.the_row
medium_sync = search (medium_inside_sync, sendable)

world_inside_send : IsSend world_inside.the_row
world_inside_send = declared_send world_inside.the_type (medium_send, (heap.Vec-send SiteState.the_row site_state_send, tt))

world_inside_sync : IsSync world_inside.the_row
world_inside_sync = declared_sync world_inside.the_type (medium_sync, (heap.Vec-sync SiteState.the_row site_state_sync, tt))

pub world_send : IsSend World.the_row
world_send = search (world_inside_send, sendable)

pub world_sync : IsSync World.the_row
world_sync = search (world_inside_sync, sendable)

pub ruleset crossing = (
  app_send,
  app_sync,
  doc_send,
  doc_sync,
  site_state_send,
  site_state_sync,
  medium_send,
  medium_sync,
  world_send,
  world_sync,
  hub.the_send,
  hub.the_sync,
  pass.the_send,
  heap.crosses,
  sendable,
)
