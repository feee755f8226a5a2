mod DrawLaws
mod ExecuteLaws
mod Following
mod KindLaws
pub mod LimitLaws
pub mod LoopLaws
mod LostLaws
mod NamingLaws
mod PlaceLaws
mod PlainLaws
mod Relation
mod RouteLaws
mod RunLaws
mod ScopeLaws
mod ShapeLaws
mod StepLaws
mod SuitLaws
pub mod ToldLaws
mod TryLaws
mod TurnLaws
mod WayLaws
mod WriteLaws
